use Rattle.kohiblad.proofs.taken_numbers.kohiblad_take_boolean.Goals as goal

pub returns : goal.returns
returns c = rw c.checked-truths.ensures at c.take.ensures
