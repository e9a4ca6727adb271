use Rattle.std.proofs.Common.{sym}
use Rattle.jsonb_value.specs.Tree.{number}
use Rattle.kohiblad.proofs.ScalarValues.{no_number}
use Rattle.kohiblad.proofs.scalar.numbers.number_in.Goals as goal

pub returns-in_default-clause-none : goal.returns-in_default-clause-none
returns-in_default-clause-none c = no_number c.args.bytes.now c.in_default.ensures.none

pub returns-else-part-eq-NUMBER_TAG-clause-none : goal.returns-else-part-eq-NUMBER_TAG-clause-none
returns-else-part-eq-NUMBER_TAG-clause-none c = λ x doc.
    c.if-part-eq-NUMBER_TAG.false (sym (c.in-Some.ensures.means (number x) doc).0)
