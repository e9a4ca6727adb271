use Rattle.std.proofs.Common.{ℕ, List, Bor, ap, ◌∙◌}
use Rattle.std.specs.List.{list_all}
use Rattle.jsonb.specs.Document.{document_tree}
use Rattle.jsonb_functions.specs.Contains.{has_top_key}
use Rattle.kohiblad.specs.KeyTests.{has_all_keys}
use Rattle.kohiblad.proofs.KeyTestLaws.{all_named, tested_by, texts}
use Rattle.kohiblad.proofs.key_tests.all_keys.Goals as goal

pub returns-in-Ok-Some : goal.returns-in-Ok-Some
returns-in-Ok-Some c =
    let t = document_tree c.args.document in
    let names = c.in-Ok-Some.names.items in
    tested_by has_all_keys t (document_tree c.args.names) (texts names)
    (list_all (λ name. has_top_key name.now t) c.deref.result.now)
    c.exists_all.result c.tested.result
    (rw c.in-Ok-Some.field-0-is at c.in-Ok-Some.ensures.ok)
    (ap (λ (it : List (Bor (List ℕ))). list_all (λ name. has_top_key name.now t) it)
    c.deref.ensures.value ∙ all_named names t)
    c.exists_all.ensures.ok c.exists_all.ensures.memory c.tested.ensures.ok c.tested.ensures.err
