use Rattle.std.proofs.Common.{◌∙◌}
use Rattle.jsonb_comparable.proofs.SplitLaws.{natural_key_zero, no_value}
use Rattle.jsonb_comparable.proofs.number.append_magnitude.Goals as goal

pub append_signed-requires : goal.append_signed-requires
append_signed-requires g c =
    let d = c.split_digits-digits.result in
    rw (natural_key_zero _ (c.split_digits-digits.ensures.value
    ∙ no_value d.high d.low d.zeros c.if-digits-eq0.true c.if-digits-eq0-2.true))
    at c.requires.room

pub returns-then-digits-eq0-2 : goal.returns-then-digits-eq0-2
returns-then-digits-eq0-2 g c =
    let d = c.split_digits-digits.result in
    rw (natural_key_zero _ (c.split_digits-digits.ensures.value
    ∙ no_value d.high d.low d.zeros c.if-digits-eq0.true c.if-digits-eq0-2.true))
    c.append_signed.ensures
