use Rattle.jsonb.proofs.raw.RawJsonb.to_value.Goals as goal

pub returns-clause-fault : goal.returns-clause-fault
returns-clause-fault c =
    rw c.as_bytes.ensures at c.value_of.ensures.fault
