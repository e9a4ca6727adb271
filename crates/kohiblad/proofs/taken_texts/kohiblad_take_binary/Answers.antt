use Rattle.kohiblad.proofs.taken_texts.kohiblad_take_binary.Goals as goal

pub returns : goal.returns
returns c = rw c.checked-binaries.ensures at c.take_texts.ensures
