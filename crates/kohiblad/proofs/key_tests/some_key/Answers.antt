use Rattle.std.proofs.Common.{ℕ, List, Bor, ap, ◌∙◌}
use Rattle.std.specs.List.{list_any}
use Rattle.jsonb.specs.Document.{document_tree}
use Rattle.jsonb_functions.specs.Contains.{has_top_key}
use Rattle.kohiblad.specs.KeyTests.{has_some_key}
use Rattle.kohiblad.proofs.KeyTestLaws.{some_named, tested_by, texts}
use Rattle.kohiblad.proofs.key_tests.some_key.Goals as goal

pub returns-in-Ok-Some : goal.returns-in-Ok-Some
returns-in-Ok-Some c =
    let t = document_tree c.args.document in
    let names = c.in-Ok-Some.names.items in
    tested_by has_some_key t (document_tree c.args.names) (texts names)
    (list_any (λ name. has_top_key name.now t) c.deref.result.now)
    c.exists_any.result c.tested.result
    (rw c.in-Ok-Some.field-0-is at c.in-Ok-Some.ensures.ok)
    (ap (λ (it : List (Bor (List ℕ))). list_any (λ name. has_top_key name.now t) it)
    c.deref.ensures.value ∙ some_named names t)
    c.exists_any.ensures.ok c.exists_any.ensures.memory c.tested.ensures.ok c.tested.ensures.err
