use Rattle.std.proofs.Common.{refl, sym, ap, ◌∙◌}
use Rattle.std.specs.Prelude.{Some}
use Rattle.jsonb.specs.Document.{document_tree}
use Rattle.jsonb_functions.proofs.KeyTextLaws.{keys_of_array, keys_of_object, keys_of_other}
use Rattle.jsonb_functions.proofs.keys.object_keys.Goals as goal

pub returns-then-part-ne-CONTAINER_TAG-clause-ok : goal.returns-then-part-ne-CONTAINER_TAG-clause-ok
returns-then-part-ne-CONTAINER_TAG-clause-ok c =
    let t = document_tree c.args.document in
    rw (keys_of_other t (λ e. c.if-part-ne-CONTAINER_TAG.true
    (sym c.part-part.ensures.means.0 ∙ e))) refl

pub returns-in-Array-clause-ok : goal.returns-in-Array-clause-ok
returns-in-Array-clause-ok c =
    let t = document_tree c.args.document in
    let (ts, (is, are)) = c.in-Array.ensures.contents t c.part-part.ensures.means in
    rw (keys_of_array t ts is) refl

pub returns-in_ok-keys-in-Object-clause-ok : goal.returns-in_ok-keys-in-Object-clause-ok
returns-in_ok-keys-in-Object-clause-ok c =
    let t = document_tree c.args.document in
    let (ps, (is, are)) = c.in-Object.ensures.contents t c.part-part.ensures.means in
    rw (keys_of_object t ps is) (ap Some (c.in_ok-keys-in-Object.ensures.ok ps are))
