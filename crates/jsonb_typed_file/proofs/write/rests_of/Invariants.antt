-- If all rows fit the format, those that are left do.
use Rattle.std.proofs.Common.{length}
use Rattle.jsonb_typed_file.specs.Written.{AllFit}
use Rattle.jsonb_typed_file.proofs.write.rests_of.Given as goal

abbrev pub invariant-loop-left : goal.invariant-loop-left
invariant-loop-left l = AllFit l.rows → AllFit l.left

abbrev pub decreases-loop-left : goal.decreases-loop-left
decreases-loop-left l = length l.left
