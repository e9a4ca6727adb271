use Rattle.std.proofs.Common.{◌≡◌, ◌↔◌, List, ℕ, ◌++◌, Err, rules, refl, ap, ◌∙◌}
use Rattle.jsonb_value.specs.Tree.{Tree}
use Rattle.jsonb_codec.specs.Canon.{canon, Fits}
use Rattle.jsonb_codec.specs.Doc.{Doc}
use Rattle.jsonb_codec.proofs.MadeLaws.{made_ok, made_passed_on}
use Rattle.jsonb_codec.proofs.Unique.{Doc-unique}
use Rattle.jsonb.specs.Document.{document_tree}
use Rattle.jsonb.proofs.DocumentLaws.{tree_of_bytes}
use Rattle.jsonb.proofs.document.Document.to_canonical.Goals as goal

-- that of the bytes' tree which fits is the one tree of the document
of_bytes : (b : List ℕ) (t : Tree) → Doc b t → ((u : Tree) × (Doc b u × Fits u)) ↔ Fits t
of_bytes b t doc =
    (λ (u, (h, fits)). rw (Doc-unique b t u doc h) fits, λ fits. (t, (doc, fits)))

pub returns-in_err-append_canonical_document-clause-limits :
    goal.returns-in_err-append_canonical_document-clause-limits
returns-in_err-append_canonical_document-clause-limits c =
    let e = c.in_err-append_canonical_document.field-0.0 in
    let handed : c.from_residual.result ≡ Err e = search rules in
    let refused : c.append_canonical_document.result ≡ Err e = search rules in
    made_passed_on _ _ e handed refused
    (of_bytes _ _ (tree_of_bytes _ c.args.self.now refl))
    c.append_canonical_document.ensures.limits

pub returns-clause-ok : goal.returns-clause-ok
returns-clause-ok c =
    let t = document_tree c.args.self.now in
    let doc = tree_of_bytes _ c.args.self.now refl in
    let known = c.in_ok-append_canonical_document.ensures.appended t doc in
    c.new.ensures ∙ known.1 ∙ ap (λ x. x ++ canon t) c.new-bytes.ensures.items

pub returns-clause-limits : goal.returns-clause-limits
returns-clause-limits c =
    let doc = tree_of_bytes _ c.args.self.now refl in
    let known = c.in_ok-append_canonical_document.ensures.appended _ doc in
    made_ok _ known.0
