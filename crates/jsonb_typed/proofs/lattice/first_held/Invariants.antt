-- What is first among the candidates that are left is first among all.
use Rattle.std.proofs.Common.{length}
use Rattle.jsonb_typed.specs.LeastTypes.{IsFirstHeld}
use Rattle.jsonb_typed.specs.declared.lattice.LeastType.{LeastType}
use Rattle.jsonb_typed.proofs.lattice.first_held.Given as goal

abbrev pub decreases-loop-left : goal.decreases-loop-left
decreases-loop-left l = length l.left

abbrev pub invariant-loop-left : goal.invariant-loop-left
invariant-loop-left l = (found : LeastType) → IsFirstHeld l.fit l.path l.rows l.left found
    → IsFirstHeld l.fit l.path l.rows l.candidates found
