-- The columns of the row so far, with those of the columns that are left, are those of all columns.
use Rattle.std.proofs.Common.{◌≡◌, ◌++◌, map, length}
use Rattle.jsonb_typed_file.specs.File.{HaveRows}
use Rattle.jsonb_typed_file.specs.OneRow.{column_of_row}
use Rattle.jsonb_typed_file.specs.Views.{buffers_view}
use Rattle.jsonb_typed_file.proofs.one_row.columns_of_row.Given as goal

abbrev pub invariant-loop-left : goal.invariant-loop-left
invariant-loop-left l = record {
  all : map buffers_view l.alone.items
      ++ map (λ p. column_of_row p l.index) (map buffers_view l.left)
      ≡ map (λ p. column_of_row p l.index) (map buffers_view l.columns);
  size : HaveRows l.rows (map buffers_view l.left);
}

abbrev pub decreases-loop-left : goal.decreases-loop-left
decreases-loop-left l = length l.left
