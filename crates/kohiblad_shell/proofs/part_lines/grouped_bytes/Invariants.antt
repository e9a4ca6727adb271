-- Fewer bytes are left.
use Rattle.std.proofs.Common.{length}
use Rattle.kohiblad_shell.proofs.part_lines.grouped_bytes.Given as goal

abbrev pub decreases-loop-left : goal.decreases-loop-left
decreases-loop-left l = length l.left
