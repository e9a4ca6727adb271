use Rattle.kohiblad.proofs.taken_texts.kohiblad_take_text_unchecked.Goals as goal

pub returns : goal.returns
returns c = rw c.unchecked-texts.ensures at c.take_texts.ensures
