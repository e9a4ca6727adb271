-- All columns have their cells if those that are left do.
use Rattle.std.proofs.Common.{map, length}
use Rattle.jsonb.specs.Document.{document_tree}
use Rattle.jsonb_typed_file.specs.File.{HaveRows, HaveTexts}
use Rattle.jsonb_typed_file.specs.Views.{buffers_view}
use Rattle.jsonb_typed_file.specs.Written.{HaveCells}
use Rattle.jsonb_typed_file.proofs.check.have_cells.Given as goal

abbrev pub invariant-loop-left : goal.invariant-loop-left
invariant-loop-left l = record {
  cells : HaveCells (document_tree l.row) l.index (map buffers_view l.left)
      → HaveCells (document_tree l.row) l.index (map buffers_view l.columns);
  size : HaveRows l.rows (map buffers_view l.left);
  texts : HaveTexts l.rows (map buffers_view l.left);
}

abbrev pub decreases-loop-left : goal.decreases-loop-left
decreases-loop-left l = length l.left
