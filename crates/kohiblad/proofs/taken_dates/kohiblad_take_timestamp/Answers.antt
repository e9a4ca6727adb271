use Rattle.kohiblad.proofs.taken_dates.kohiblad_take_timestamp.Goals as goal

pub returns : goal.returns
returns c = rw c.checked-timestamps.ensures at c.take.ensures
