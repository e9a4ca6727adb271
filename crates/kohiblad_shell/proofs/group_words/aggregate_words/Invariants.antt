-- The words so far say aggregates.
use Rattle.std.proofs.Common.{◌≡◌, ◌+◌, length}
use Rattle.kohiblad_shell.specs.GroupWords.{aggregate_words}
use Rattle.kohiblad_shell.proofs.group_words.aggregate_words.Given as goal

abbrev pub invariant-loop-left : goal.invariant-loop-left
invariant-loop-left l = record {
  counted : aggregate_words l.words ≡ l.count + aggregate_words l.left;
  whole : l.count + length l.left ≡ length l.words;
}

abbrev pub decreases-loop-left : goal.decreases-loop-left
decreases-loop-left l = length l.left
