use Rattle.std.proofs.Common.{arith}
use Rattle.std.proofs.lemmas.Bool.{eqb-true, eq-eqb}
use Rattle.jsonb_value.proofs.PayloadLengths.{NumCode-whole, NumCode-decimal, NumCode-zero, tested}
use Rattle.jsonb_value.proofs.number.has_tag.Goals as goal

pub returns-in-64 : goal.returns-in-64
returns-in-64 c = λ rest len. tested c.is_whole_length.ensures
    (NumCode-whole c.args.tag c.args.count c.in-64.is rest len)

pub returns-in-112 : goal.returns-in-112
returns-in-112 c = λ rest len. tested c.is_decimal_length.ensures
    (NumCode-decimal c.args.tag c.args.count c.in-112.is rest len)

pub returns-in-0 : goal.returns-in-0
returns-in-0 c =
    grind (arith, tested, eqb-true, eq-eqb, NumCode-zero)
