-- Fewer paths are left.
use Rattle.std.proofs.Common.{length}
use Rattle.kohiblad_shell.proofs.removal.+removed_row.Given as goal

abbrev pub decreases-removed_row : goal.decreases-removed_row
decreases-removed_row l = length l.paths.now
