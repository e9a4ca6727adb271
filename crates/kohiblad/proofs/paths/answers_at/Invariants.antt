-- After the answers that were made come those for the positions that are left.
use Rattle.std.proofs.Common.{◌≡◌, ◌++◌, length, map}
use Rattle.kohiblad.specs.PathCalls.{found_answer}
use Rattle.kohiblad.proofs.paths.answers_at.Given as goal

abbrev pub invariant-loop-left : goal.invariant-loop-left
invariant-loop-left l =
    l.answers.items ++ map found_answer l.left ≡ map found_answer l.fn.places

abbrev pub decreases-loop-left : goal.decreases-loop-left
decreases-loop-left l = length l.left
