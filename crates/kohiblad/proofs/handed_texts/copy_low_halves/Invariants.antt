use Rattle.std.proofs.Common.{◌≡◌, ◌++◌, length, map, take, drop}
use Rattle.kohiblad.specs.TakenTexts.{low_word}
use Rattle.kohiblad.proofs.handed_texts.copy_low_halves.Given as goal

abbrev pub invariant-loop-word : goal.invariant-loop-word
invariant-loop-word l = record {
  index : l.number ≡ l.word-index;
  room : length l.out ≡ length l.fn.out;
  copied :
      l.out ≡ map low_word (take l.word-index l.words) ++ drop l.word-index l.fn.out;
}
