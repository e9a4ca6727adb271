-- The rows that are kept so far come before those of what is left.
use Rattle.std.proofs.Common.{◌≡◌, ◌++◌, None, length}
use Rattle.kohiblad_shell.specs.Sorts.{distinct}
use Rattle.kohiblad_shell.proofs.sort.distinct.Given as goal

abbrev pub invariant-loop-left : goal.invariant-loop-left
invariant-loop-left l = distinct None l.fn.rows ≡ l.kept.items ++ distinct l.last l.left

abbrev pub decreases-loop-left : goal.decreases-loop-left
decreases-loop-left l = length l.left
