-- What the digits so far spell stands before those that are left.
use Rattle.std.proofs.Common.{◌≡◌, length}
use Rattle.kohiblad_shell.specs.Sizes.{digits_value}
use Rattle.kohiblad_shell.proofs.size.number_after.Given as goal

abbrev pub invariant-loop-left : goal.invariant-loop-left
invariant-loop-left l = digits_value l.number l.left ≡ digits_value l.fn.start l.fn.digits

abbrev pub decreases-loop-left : goal.decreases-loop-left
decreases-loop-left l = length l.left
