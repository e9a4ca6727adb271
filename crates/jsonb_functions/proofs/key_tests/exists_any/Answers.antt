use Rattle.std.proofs.Common.{List, Bor, ℕ, ap, sym, ◌∙◌}
use Rattle.std.specs.List.{list_any}
use Rattle.jsonb.specs.Document.{document_tree}
use Rattle.jsonb_functions.specs.Contains.{has_top_key}
use Rattle.jsonb_functions.proofs.KeyTestLaws.{any_sorted}
use Rattle.jsonb_functions.proofs.key_tests.exists_any.Goals as goal

pub returns-clause-ok : goal.returns-clause-ok
returns-clause-ok c =
    let t = document_tree c.args.document in
    c.has_named.ensures
    ∙ ap (λ (keys : List (Bor (List ℕ))). list_any (λ key. has_top_key key.now t) keys)
    c.deref.ensures.value
    ∙ sym (any_sorted c.args.keys.now c.in_ok-keys.keys.items t c.in_ok-keys.ensures.same)
