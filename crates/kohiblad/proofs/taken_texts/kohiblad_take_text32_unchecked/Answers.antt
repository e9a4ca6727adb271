use Rattle.kohiblad.proofs.taken_texts.kohiblad_take_text32_unchecked.Goals as goal

pub returns : goal.returns
returns c = rw c.unchecked-texts32.ensures at c.take_texts32.ensures
