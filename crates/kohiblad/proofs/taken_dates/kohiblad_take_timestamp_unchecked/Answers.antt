use Rattle.kohiblad.proofs.taken_dates.kohiblad_take_timestamp_unchecked.Goals as goal

pub returns : goal.returns
returns c = rw c.unchecked-timestamps.ensures at c.take.ensures
