use Rattle.kohiblad.proofs.taken_dates.kohiblad_take_timestamp_tz.Goals as goal

pub returns : goal.returns
returns c = rw c.checked-zoned.ensures at c.take.ensures
