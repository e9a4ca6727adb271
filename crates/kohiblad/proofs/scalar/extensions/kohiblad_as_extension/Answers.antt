use Rattle.std.proofs.Common.{ap, ◌∙◌}
use Rattle.kohiblad.specs.Scalars.{extension_answer}
use Rattle.kohiblad.proofs.ScalarValues.{one_extension}
use Rattle.kohiblad.proofs.scalar.extensions.kohiblad_as_extension.Goals as goal

pub returns-in-Some-clause-extension : goal.returns-in-Some-clause-extension
returns-in-Some-clause-extension c = λ e doc.
    c.fields_of.ensures
    ∙ ap extension_answer (one_extension c.args.bytes.now _ e c.in-Some.ensures.found doc)
