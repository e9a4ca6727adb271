use Rattle.std.proofs.Common.{arith, ◌≡◌, length, ap, sym, ◌∙◌}
use Rattle.std.proofs.Output.{has_written_styled_of_eq}
use Rattle.jsonb_codec.proofs.Scalars.{empty_test, not_empty}
use Rattle.jsonb_codec.proofs.WellFormed.{IsTree-Doc}
use Rattle.jsonb.specs.Document.{document_tree}
use Rattle.jsonb.proofs.DocumentLaws.{tree_of_bytes, no_document}
use Rattle.jsonb.proofs.TextLaws.{display_text-Doc, display_text-other, other_text-empty}
use Rattle.jsonb.proofs.TextLaws.{other_text-some}
use Rattle.jsonb.proofs.text.write_view.Goals as goal

pub returns-in-Some-clause-text : goal.returns-in-Some-clause-text
returns-in-Some-clause-text g c flush ok =
    let b = c.args.bytes.now in let d = c.in-Some.document in
    has_written_styled_of_eq _ _ _ _ _
    (sym (display_text-Doc b (document_tree d) (tree_of_bytes b d c.in-Some.ensures.bytes)))
    (c.write_document.ensures flush ok)

pub returns-in-None-clause-text : goal.returns-in-None-clause-text
returns-in-None-clause-text g c flush ok =
    let b = c.args.bytes.now in
    let empty : length b ≡ 0 =
    ap length ((empty_test _ b c.is_empty.ensures).0 c.if-is_empty.true) in
    has_written_styled_of_eq _ _ _ _ _
    (sym (display_text-other b (no_document b c.in-None.ensures.exact)
    ∙ other_text-empty b empty)) (c.write_str.ensures.styled flush ok)

pub returns-in-None-2-clause-text : goal.returns-in-None-2-clause-text
returns-in-None-2-clause-text g c flush ok =
    let b = c.args.bytes.now in
    let some : length b ≡ 0 → ⊥ = not_empty _ b c.is_empty.ensures c.if-is_empty.false in
    has_written_styled_of_eq _ _ _ _ _
    (sym (display_text-other b (no_document b c.in-None.ensures.exact)
    ∙ other_text-some b some)) (c.write_lossy.ensures flush ok)

pub returns-in-Some-clause-tree : goal.returns-in-Some-clause-tree
returns-in-Some-clause-tree g c t =
    IsTree-Doc c.args.bytes.now t (λ i. omega (arith, c.type_inv.bytes i))

pub returns-in-None-clause-tree : goal.returns-in-None-clause-tree
returns-in-None-clause-tree g c t =
    IsTree-Doc c.args.bytes.now t (λ i. omega (arith, c.type_inv.bytes i))

pub returns-in-None-2-clause-tree : goal.returns-in-None-2-clause-tree
returns-in-None-2-clause-tree g c t =
    IsTree-Doc c.args.bytes.now t (λ i. omega (arith, c.type_inv.bytes i))
