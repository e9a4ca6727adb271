-- The column is among those that are left, which were checked.
use Rattle.std.proofs.Common.{◌≡◌, map, length}
use Rattle.jsonb_typed_file.specs.File.{HaveRows, HaveTexts, column_named}
use Rattle.jsonb_typed_file.specs.Views.{buffers_view}
use Rattle.jsonb_typed_file.proofs.file.TypedFile.column.Given as goal

abbrev pub invariant-loop-left : goal.invariant-loop-left
invariant-loop-left l = record {
  found : column_named l.name l.self.columns ≡ column_named l.name (map buffers_view l.left);
  size : HaveRows l.rows (map buffers_view l.left);
  texts : HaveTexts l.rows (map buffers_view l.left);
}

abbrev pub decreases-loop-left : goal.decreases-loop-left
decreases-loop-left l = length l.left
