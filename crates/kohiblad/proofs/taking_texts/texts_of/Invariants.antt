use Rattle.std.proofs.Common.{length}
use Rattle.kohiblad.specs.TakenTexts.{IsBytesRow}
use Rattle.kohiblad.proofs.TakenTextLaws.{TextsSoFar}
use Rattle.kohiblad.proofs.taking_texts.texts_of.Given as goal

abbrev pub invariant-loop-row : goal.invariant-loop-row
invariant-loop-row l =
    TextsSoFar (IsBytesRow l.reading l.bytes_type l.path) l.fn.rows l.left l.texts

abbrev pub decreases-loop-row : goal.decreases-loop-row
decreases-loop-row l = length l.left
