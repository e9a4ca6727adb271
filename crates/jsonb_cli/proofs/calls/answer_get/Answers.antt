use Rattle.std.proofs.Common.{rules, ◌≡◌, ◌∙◌, Some, length, nat_eq, sym, ap, subst, refl, inl}
use Rattle.std.specs.Cmp.Lexicographic.{pointwise}
use Rattle.jsonb.specs.Document.{document_tree}
use Rattle.jsonb.specs.StoredEntries.{IsFoundIn}
use Rattle.jsonb.specs.Node.{node_view}
use Rattle.jsonb.proofs.DocumentLaws.{tree_of_bytes}
use Rattle.jsonb.proofs.ItemLaws.{IsItemOf-CanBeStored}
use Rattle.jsonb.proofs.NodeLaws.{found_item_of}
use Rattle.jsonb_cli.specs.Answers.{not_text, no_name, no_document, none, found}
use Rattle.jsonb_cli.proofs.Answering.{failed, come_out, key_named, item_found}
use Rattle.jsonb_cli.proofs.Answering.{said_of}
use Rattle.jsonb_cli.proofs.calls.answer_get.Goals as goal

pub returns-in_default : goal.returns-in_default
returns-in_default c = inl (not_text _ c.in_ok-bytes.ensures.ok (search rules) refl)

pub returns-in-Err : goal.returns-in-Err
returns-in-Err c =
    let same : c.in-Ok.json.now ≡ c.args.key.now = search rules in
    failed c.in-Err.ensures.only
    (λ is. no_name _ c.in_ok-bytes.ensures.ok c.in-Ok.ensures.1
    (λ name named. c.in-Err.ensures.invalid is name (rw same named.1)) (ap said_of is))

pub returns-in-Err-document_in : goal.returns-in-Err-document_in
returns-in-Err-document_in c =
    let named = key_named c.in-Ok-parse_string.name (search rules) c.in-Ok.ensures.1 refl
    c.in-Ok-parse_string.ensures.ok in
    let (is, not) = c.in-Err-document_in.ensures.none in
    inl (no_document _ _ c.in_ok-bytes.ensures.ok named (rw c.deref.ensures.value at not)
    (ap said_of is))

pub returns-in-Some : goal.returns-in-Some
returns-in-Some c =
    let named = key_named c.in-Ok-parse_string.name (search rules) c.in-Ok.ensures.1
    c.deref-2.ensures.value
    c.in-Ok-parse_string.ensures.ok in
    let name = c.deref-2.result.now in
    let d = c.in-Ok-document_in.document in
    let same = c.in-Ok-document_in.ensures.ok ∙ c.deref.ensures.value in
    let stored = subst (λ b. IsFoundIn (pointwise nat_eq name) (length name) b (document_tree d)
    (Some (node_view c.in-Some.value))) same c.in-Some.ensures.entry in
    let (u, (is, item)) = item_found (found_item_of _ _ _ _ _ stored) in
    come_out c.value_answer.result c.value_answer.ensures.ok
    (c.value_answer.ensures.memory (IsItemOf-CanBeStored u (node_view c.in-Some.value) item))
    (found _ _ (document_tree d) u (node_view c.in-Some.value) c.in_ok-bytes.ensures.ok named
    (tree_of_bytes _ d same) is item stored)

pub returns : goal.returns
returns c =
    let named = key_named c.in-Ok-parse_string.name (search rules) c.in-Ok.ensures.1
    c.deref-2.ensures.value
    c.in-Ok-parse_string.ensures.ok in
    let d = c.in-Ok-document_in.document in
    let same = c.in-Ok-document_in.ensures.ok ∙ c.deref.ensures.value in
    inl (none _ _ (document_tree d) c.in_ok-bytes.ensures.ok named (tree_of_bytes _ d same)
    (sym c.in-None.ensures.value) refl)
