use Rattle.std.proofs.Common.{length}
use Rattle.kohiblad.specs.TakenTexts.{IsBytesAt}
use Rattle.kohiblad.proofs.TakenTextLaws.{TextsSoFar}
use Rattle.kohiblad.proofs.taking_texts.texts_at.Given as goal

abbrev pub invariant-loop-place : goal.invariant-loop-place
invariant-loop-place l =
    TextsSoFar (IsBytesAt l.bytes_type l.bytes) l.fn.places l.left l.texts

abbrev pub decreases-loop-place : goal.decreases-loop-place
decreases-loop-place l = length l.left
