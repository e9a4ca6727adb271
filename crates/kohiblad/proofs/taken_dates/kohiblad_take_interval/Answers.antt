use Rattle.kohiblad.proofs.taken_dates.kohiblad_take_interval.Goals as goal

pub returns : goal.returns
returns c = rw c.checked-intervals.ensures at c.take.ensures
