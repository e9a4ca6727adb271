use Rattle.std.proofs.Common.{ap, ◌∙◌}
use Rattle.kohiblad.specs.Scalars.{truth_answer}
use Rattle.kohiblad.proofs.ScalarValues.{one_boolean}
use Rattle.kohiblad.proofs.scalar.kohiblad_as_boolean.Goals as goal

pub returns-in-Some-clause-boolean : goal.returns-in-Some-clause-boolean
returns-in-Some-clause-boolean c = λ b doc.
    c.truth_of.ensures
    ∙ ap truth_answer (one_boolean c.args.bytes.now c.in-Some.value b c.in-Some.ensures.found doc)
