use Rattle.std.proofs.Common.{sym}
use Rattle.jsonb_value.specs.Tree.{extension}
use Rattle.kohiblad.proofs.ScalarValues.{no_extension}
use Rattle.kohiblad.proofs.scalar.extensions.extension_in.Goals as goal

pub returns-in_default-clause-none : goal.returns-in_default-clause-none
returns-in_default-clause-none c = no_extension c.args.bytes.now c.in_default.ensures.none

pub returns-else-part-eq-EXTENSION_TAG-clause-none :
    goal.returns-else-part-eq-EXTENSION_TAG-clause-none
returns-else-part-eq-EXTENSION_TAG-clause-none c = λ e doc.
    c.if-part-eq-EXTENSION_TAG.false (sym (c.in-Some.ensures.means (extension e) doc).0)
