-- Whether parts are as they would be written: payloads, children one by one, and whole documents.
use Rattle.std.proofs.Common.{◌≡◌, ◌↔◌, ◌<◌, ◌+◌, ◌^◌, ℕ, List, ◌++◌, length, false, inl, inr, sym}
use Rattle.std.proofs.Common.{ap₂, subst, ◌∙◌, arith, IsTrue, nat_eq}
use Rattle.std.proofs.lemmas.Bool.{eqb-true, eq-eqb, cases_eq}
use Rattle.std.proofs.lemmas.List.{append_cancel_left}
use Rattle.jsonb_value.specs.declared.number.Number.{Number}
use Rattle.jsonb_value.specs.Norm.{norm}
use Rattle.jsonb_value.specs.NumCode.{NumCode, number_payload}
use Rattle.jsonb_value.specs.ExtCode.{ExtCode, extension_payload}
use Rattle.jsonb_value.specs.Tree.{Extension, Tree, Trees, number, extension, no_trees}
use Rattle.jsonb_value.proofs.BigEndian.{AreBytes}
use Rattle.jsonb_value.proofs.Output.{number_payload-NumCode, extension_payload-ExtCode}
use Rattle.jsonb_codec.specs.WordBytes.{word}
use Rattle.jsonb_codec.specs.Doc.{type_of, Doc, IsDocument, Children}
use Rattle.jsonb_codec.specs.Parts.{IsPayloadOf}
use Rattle.jsonb_codec.specs.Canon.{payload_of, document_of}
use Rattle.jsonb_codec.specs.Canonical.{IsCanonical, IsWritten, AreWritten}
use Rattle.jsonb_codec.specs.Rewriting.{FirstChild, ContainerParts}
use Rattle.jsonb_codec.proofs.Words.{length-word, same_words, same_parts, length-word-append}
use Rattle.jsonb_codec.proofs.Entries.{IsType-type_of, length-Children}
use Rattle.jsonb_codec.proofs.Lengths.{length-entries_of, length-canon-scalar, document_of-scalar}
use Rattle.jsonb_codec.proofs.CanonLaws.{Doc-canon}
use Rattle.jsonb_codec.proofs.TreeShapes.{entries_of, payloads_of, canon-parts, Fits-parts}
use Rattle.jsonb_codec.proofs.Rewriting.{canonical_twice}
use Rattle.jsonb_codec.proofs.WellFormed.{IsTree-Doc}

-- a comparison of two lengths, one of which is known by another name
length_test : (a b n : ℕ) (P : Type 0) → b ≡ n → ((a ≡ n) ↔ P) → IsTrue (nat_eq a b) ↔ P
length_test a b n P e same = grind (arith, eq-eqb, eqb-true)

-- a number or an extension value is as written exactly if its length is
pub written_number : (p : List ℕ) (x : Number) (n : ℕ) → AreBytes p → n ≡ length (number_payload x)
    → NumCode p x → IsTrue (nat_eq (length p) n) ↔ IsWritten (number x) p
written_number p x n bytes long h = grind (arith, length_test, number_payload-NumCode)

pub written_extension : (p : List ℕ) (x : Extension) (n : ℕ) → AreBytes p
    → n ≡ length (extension_payload x) → ExtCode p x → IsTrue (nat_eq (length p) n)
    ↔ IsWritten (extension x) p
written_extension p x n bytes long h = grind (arith, extension_payload-ExtCode, length_test)

-- Children are as written exactly if the first and the others are.
module _ {ts : Trees} {ty : ℕ} {payload e2 p2 e p : List ℕ} (f : FirstChild ts ty payload e2 p2)
    (es : e ≡ word (ty + length payload) ++ e2) (ps : p ≡ payload ++ p2)
    (short : length payload < 2 ^ 28) where
  pub written_onward : AreWritten ts e p → IsWritten f.first payload × AreWritten f.others e2 p2
  written_onward w = grind (arith, IsType-type_of, same_parts, same_words)

  pub written_back : IsWritten f.first payload → AreWritten f.others e2 p2 → AreWritten ts e p
  written_back (fit, w) (all, (is, are)) = grind arith

pub none_written : (ts : Trees) (e p : List ℕ) → ts ≡ no_trees → Children ts e p → AreWritten ts e p
none_written ts e p none h =
    let ended = subst (λ us. Children us e p) none h in
    subst (λ us. AreWritten us e p) (sym none) (tt, (sym ended.no_entries, sym ended.no_payloads))

-- A container is as written exactly if its children are.
pub written_container : (t : Tree) (header : ℕ) (e p b : List ℕ) → (o : ContainerParts t header e p)
    → b ≡ word header ++ (e ++ p) → AreWritten o.children e p ↔ IsWritten t b
written_container t header e p b o parts = (
  λ (fit, (es, ps)). (o.fit.0 fit, cc (o.written)),
  λ (fit, w).
      let inside = append_cancel_left (word header) _ _ (sym o.written ∙ w ∙ parts) in
      let len = length-entries_of o.children ∙ sym (length-Children o.children e p o.are) in
      (o.fit.1 fit, same_parts (entries_of o.children) e (payloads_of o.children) p len inside),
)

-- A document is canonical exactly if its single part is as written.
same_document : (ty : ℕ) (p q : List ℕ) → document_of ty p ≡ document_of ty q → p ≡ q
same_document ty p q e =
    elim (cases_eq ty 1342177280) [
      | inl is ↦ subst (λ k. document_of k p ≡ document_of k q) is e
      | inr other ↦
          let inner = append_cancel_left (word 536870912) _ _
          (sym (document_of-scalar ty p other) ∙ e ∙ document_of-scalar ty q other) in
          (same_parts (word (ty + length p)) (word (ty + length q)) p q
          (length-word _ ∙ sym (length-word _)) inner).1
    ]

fits_document : (b : List ℕ) (t : Tree) → Doc b t → document_of (type_of t) (payload_of t) ≡ b
    → (type_of t ≡ 1342177280 → ⊥) → length (payload_of t) < 2 ^ 28
fits_document b t (inr (q, h)) e other = absurd (other q)
fits_document b t (inl (q, h)) e other =
    let same = canon-parts t in grind (arith, length-canon-scalar, length-word-append)

pub written_document : (b : List ℕ) (t : Tree) → AreBytes b → Doc b t → (ty : ℕ) (p : List ℕ)
    → IsPayloadOf ty p t → document_of ty p ≡ b → IsWritten t p ↔ IsCanonical b
written_document b t bytes doc ty p (q, h) parts = (
  λ (fit, w).
      let same = ap₂ document_of q w ∙ parts in (
        t,
        (
          IsTree-Doc b t bytes doc,
          (
            (Fits-parts t).1 (record { inside = fit; short = fits_document b t doc same }),
            canon-parts t ∙ same,
          ),
        ),
      ),
  λ (u, (ok, (fits, e))).
      let again = canonical_twice b u (sym e) ok fits t doc in (
        ((Fits-parts t).0 again.0).inside,
        same_document (type_of t) (payload_of t) p
            (sym (canon-parts t) ∙ again.1 ∙ (rw q (sym parts))),
      ),
)

pub canonical_document : (b : List ℕ) → IsCanonical b → IsDocument b
canonical_document b (t, (ok, (fits, w))) =
    (norm t, subst (λ x. Doc x (norm t)) w (Doc-canon t ok fits))

-- a test that returns false for a statement that does not hold
pub refused : {P : Type 0} → (P → ⊥) → IsTrue false ↔ P
refused never = (λ yes. cc, λ p. absurd (never p))
