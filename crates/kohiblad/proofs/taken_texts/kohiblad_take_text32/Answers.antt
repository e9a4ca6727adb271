use Rattle.kohiblad.proofs.taken_texts.kohiblad_take_text32.Goals as goal

pub returns : goal.returns
returns c = rw c.checked-texts32.ensures at c.take_texts32.ensures
