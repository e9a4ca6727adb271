-- Fewer digits are left.
use Rattle.std.proofs.Common.{length}
use Rattle.kohiblad_shell.proofs.titles.grouped_digits.Given as goal

abbrev pub decreases-loop-left : goal.decreases-loop-left
decreases-loop-left l = length l.left
