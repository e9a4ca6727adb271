use Rattle.kohiblad.proofs.taken_texts.kohiblad_take_binary_unchecked.Goals as goal

pub returns : goal.returns
returns c = rw c.unchecked-binaries.ensures at c.take_texts.ensures
