use Rattle.std.proofs.Common.{subst}
use Rattle.jsonb_value.specs.declared.number.Number.{Number}
use Rattle.kohiblad.specs.Scalars.{IsDecimalOf}
use Rattle.kohiblad.proofs.ScalarValues.{one_number}
use Rattle.kohiblad.proofs.scalar.numbers.kohiblad_as_decimal.Goals as goal

pub returns-in-Some-clause-number : goal.returns-in-Some-clause-number
returns-in-Some-clause-number c = λ x doc.
    subst (λ (y : Number). IsDecimalOf y c.decimal_of.result)
    (one_number c.args.bytes.now c.in-Some.number x c.in-Some.ensures.found doc)
    c.decimal_of.ensures

pub returns-in-None-clause-number : goal.returns-in-None-clause-number
returns-in-None-clause-number c = λ x doc. absurd (c.in-None.ensures.none x doc)
