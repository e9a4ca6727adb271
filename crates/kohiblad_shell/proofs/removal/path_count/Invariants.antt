-- The words so far begin as paths do.
use Rattle.std.proofs.Common.{◌≡◌, ◌+◌, length}
use Rattle.kohiblad_shell.specs.Removals.{path_count}
use Rattle.kohiblad_shell.proofs.removal.path_count.Given as goal

abbrev pub invariant-loop-left : goal.invariant-loop-left
invariant-loop-left l = record {
  counted : path_count l.words ≡ l.count + path_count l.left;
  whole : l.count + length l.left ≡ length l.words;
}

abbrev pub decreases-loop-left : goal.decreases-loop-left
decreases-loop-left l = length l.left
