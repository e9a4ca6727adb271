use Rattle.std.proofs.Common.{◌≡◌, Ok, Some, rules, refl, sym, ap, ◌∙◌}
use Rattle.jsonb_codec.specs.WordBytes.{header_at}
use Rattle.jsonb.specs.Document.{document_tree}
use Rattle.jsonb.specs.Entries.{entries_of}
use Rattle.jsonb.proofs.DocumentLaws.{tree_of_bytes}
use Rattle.jsonb.proofs.NodeLaws.{first_key_opened, no_first_key}
use Rattle.jsonb.proofs.document.Document.first_key.Goals as goal

pub returns-in_default : goal.returns-in_default
returns-in_default c =
    no_first_key _ _ c.header.result.0 c.header.result.1 (tree_of_bytes _ c.args.self.now refl)
    c.header.ensures.value (search rules)

pub next_part-requires : goal.next_part-requires
next_part-requires c =
    let is : 1073741824 ≡ c.header.result.0 = search rules in
    let read = ap (λ kind. Ok (kind, c.header.result.1)) is ∙ c.header.ensures.value
    ∙ ap (λ b. header_at b 0) (sym c.as_bytes.ensures.bytes) in
    rw c.over_keys.ensures
    (first_key_opened _ (document_tree c.args.self.now) _ c.as_bytes.ensures.document read).0.0

pub text-requires : goal.text-requires
text-requires c =
    let is : 1073741824 ≡ c.header.result.0 = search rules in
    let read = ap (λ kind. Ok (kind, c.header.result.1)) is ∙ c.header.ensures.value
    ∙ ap (λ b. header_at b 0) (sym c.as_bytes.ensures.bytes) in
    (rw (ap entries_of (sym c.over_keys.ensures) ∙ c.in-Some.ensures.steps) at
    ((first_key_opened _ (document_tree c.args.self.now) _
    c.as_bytes.ensures.document read).0.1)).0

pub returns-in-Some : goal.returns-in-Some
returns-in-Some c =
    let is : 1073741824 ≡ c.header.result.0 = search rules in
    let read = ap (λ kind. Ok (kind, c.header.result.1)) is ∙ c.header.ensures.value
    ∙ ap (λ b. header_at b 0) (sym c.as_bytes.ensures.bytes) in
    ap (λ x. Some (Some x)) c.text.ensures.bytes
    ∙ (rw (ap entries_of (sym c.over_keys.ensures) ∙ c.in-Some.ensures.steps) at
    ((first_key_opened _ (document_tree c.args.self.now) _ c.as_bytes.ensures.document read).1))

pub returns-in-None : goal.returns-in-None
returns-in-None c =
    let is : 1073741824 ≡ c.header.result.0 = search rules in
    let read = ap (λ kind. Ok (kind, c.header.result.1)) is ∙ c.header.ensures.value
    ∙ ap (λ b. header_at b 0) (sym c.as_bytes.ensures.bytes) in
    rw (ap entries_of (sym c.over_keys.ensures) ∙ c.in-None.ensures.steps.0) at
    ((first_key_opened _ (document_tree c.args.self.now) _ c.as_bytes.ensures.document read).1)
