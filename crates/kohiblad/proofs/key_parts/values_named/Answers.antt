use Rattle.kohiblad.proofs.key_parts.values_named.Goals as goal

pub value_named-requires : goal.value_named-requires
value_named-requires c = rw c.as_ref.ensures.value c.loop-name.invariant.table
