use Rattle.kohiblad.proofs.taken_dates.kohiblad_take_interval_unchecked.Goals as goal

pub returns : goal.returns
returns c = rw c.unchecked-intervals.ensures at c.take.ensures
