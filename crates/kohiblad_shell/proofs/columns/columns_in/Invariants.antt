-- Fewer words are left.
use Rattle.std.proofs.Common.{length}
use Rattle.kohiblad_shell.proofs.columns.columns_in.Given as goal

abbrev pub decreases-loop-left : goal.decreases-loop-left
decreases-loop-left l = length l.left
