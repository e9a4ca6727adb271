use Rattle.kohiblad.proofs.taken_dates.kohiblad_take_date_unchecked.Goals as goal

pub returns : goal.returns
returns c = rw c.unchecked-dates.ensures at c.take.ensures
