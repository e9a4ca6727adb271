-- All rows come back if those that are left do.
use Rattle.std.proofs.Common.{◌≡◌, ◌+◌, length}
use Rattle.jsonb_typed_file.specs.Written.{AllFit, AreRows}
use Rattle.jsonb_typed_file.proofs.check.are_rows.Given as goal

abbrev pub invariant-loop-left : goal.invariant-loop-left
invariant-loop-left l = record {
  rows : AreRows l.file l.index l.left → AreRows l.file 0 l.rows;
  fit : AllFit l.rows → AllFit l.left;
  count : l.index + length l.left ≡ length l.rows;
}

abbrev pub decreases-loop-left : goal.decreases-loop-left
decreases-loop-left l = length l.left
