use Rattle.kohiblad.proofs.taken_dates.kohiblad_take_timestamp_tz_unchecked.Goals as goal

pub returns : goal.returns
returns c = rw c.unchecked-zoned.ensures at c.take.ensures
