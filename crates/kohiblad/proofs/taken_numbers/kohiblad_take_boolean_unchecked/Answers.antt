use Rattle.kohiblad.proofs.taken_numbers.kohiblad_take_boolean_unchecked.Goals as goal

pub returns : goal.returns
returns c = rw c.unchecked-truths.ensures at c.take.ensures
