use Rattle.kohiblad.proofs.taken_dates.kohiblad_take_date.Goals as goal

pub returns : goal.returns
returns c = rw c.checked-dates.ensures at c.take.ensures
