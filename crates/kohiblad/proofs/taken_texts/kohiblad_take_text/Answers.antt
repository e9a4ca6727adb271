use Rattle.kohiblad.proofs.taken_texts.kohiblad_take_text.Goals as goal

pub returns : goal.returns
returns c = rw c.checked-texts.ensures at c.take_texts.ensures
