use Rattle.jsonb_value.specs.Tree.{boolean}
use Rattle.kohiblad.proofs.ScalarValues.{no_boolean, neither_type}
use Rattle.kohiblad.proofs.scalar.boolean_in.Goals as goal

pub returns-in_default-clause-none : goal.returns-in_default-clause-none
returns-in_default-clause-none c = no_boolean c.args.bytes.now c.in_default.ensures.none

pub returns-else-part-eq-FALSE_TAG-clause-none : goal.returns-else-part-eq-FALSE_TAG-clause-none
returns-else-part-eq-FALSE_TAG-clause-none c = λ b doc.
    neither_type c.in-Some.part.type_code b (c.in-Some.ensures.means (boolean b) doc).0
    c.if-part-eq-TRUE_TAG.false c.if-part-eq-FALSE_TAG.false
