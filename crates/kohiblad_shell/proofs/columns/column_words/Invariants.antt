-- The words so far are paths with their types.
use Rattle.std.proofs.Common.{◌≡◌, ◌+◌, length}
use Rattle.kohiblad_shell.specs.Columns.{column_words}
use Rattle.kohiblad_shell.proofs.columns.column_words.Given as goal

abbrev pub invariant-loop-left : goal.invariant-loop-left
invariant-loop-left l = record {
  counted : column_words l.words ≡ l.count + column_words l.left;
  whole : l.count + length l.left ≡ length l.words;
}

abbrev pub decreases-loop-left : goal.decreases-loop-left
decreases-loop-left l = length l.left
