use Rattle.jsonb_value.proofs.Json.StringSteps.{string_stands, string_spelled, string_refused}
use Rattle.jsonb_value.proofs.Json.ValueSteps.{err_is}
use Rattle.jsonb_value.proofs.parser.reader.give_key.Goals as goal

pub returns-in-Some-clause-ok : goal.returns-in-Some-clause-ok
returns-in-Some-clause-ok g c = (
  _,
  (
    string_stands _ _ _ _ _ c.split_plain.ensures.whole c.split_plain.ensures.plain
        c.split_plain.ensures.bytes c.in-Some.ensures,
    c.in_ok-key.ensures.ok,
  ),
)

pub returns-in_err-after-clause-err : goal.returns-in_err-after-clause-err
returns-in_err-after-clause-err g c =
    err_is _ _ _ c.from_residual-in_err-after.ensures.1
    (string_refused _ _ _ _ _ c.split_plain.ensures.whole c.split_plain.ensures.plain
    c.split_plain.ensures.bytes c.in_err-after.ensures)

pub returns-clause-ok : goal.returns-clause-ok
returns-clause-ok g c = (
  _,
  (
    string_spelled _ _ _ _ _ _ _ c.split_plain.ensures.whole c.split_plain.ensures.plain
        c.split_plain.ensures.bytes c.in_ok-after.ensures c.as_str.ensures.value,
    c.in_ok-spelled_key.ensures.ok,
  ),
)
