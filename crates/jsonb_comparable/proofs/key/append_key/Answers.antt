use Rattle.jsonb_comparable.proofs.KeyLaws.{key_of_sorted}
use Rattle.jsonb_comparable.proofs.key.append_key.Goals as goal

pub returns-in_err-try_reserve-clause-laws : goal.returns-in_err-try_reserve-clause-laws
returns-in_err-try_reserve-clause-laws c =
    key_of_sorted c.args.key (rw c.as_bytes.ensures at c.has_key.ensures)

pub returns-clause-laws : goal.returns-clause-laws
returns-clause-laws c =
    key_of_sorted c.args.key (rw c.as_bytes.ensures at c.has_key.ensures)
