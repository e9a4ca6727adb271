use Rattle.std.proofs.Common.{ap, ◌∙◌}
use Rattle.kohiblad.specs.Scalars.{int64_answer}
use Rattle.kohiblad.proofs.ScalarValues.{one_number}
use Rattle.kohiblad.proofs.scalar.numbers.kohiblad_as_int64.Goals as goal

pub returns-in-Some-clause-number : goal.returns-in-Some-clause-number
returns-in-Some-clause-number c = λ x doc.
    c.int64_of.ensures
    ∙ ap int64_answer (one_number c.args.bytes.now c.in-Some.number x c.in-Some.ensures.found doc)
