-- What is built from documents is a document.
use Rattle.std.proofs.Common.{◌≡◌, ℕ, suc, ◌+◌, ◌<◌, ◌^◌, List, [], ◌∷◌, ◌++◌, length, map, refl}
use Rattle.std.proofs.Common.{sym, ap, ap₂, ◌∙◌, inl, inr, lit<}
use Rattle.jsonb_value.specs.Tree.{Tree, Trees, no_trees, tree, array, count}
use Rattle.jsonb_value.specs.Norm.{norm}
use Rattle.jsonb_value.specs.WellFormed.{IsTree}
use Rattle.jsonb_codec.specs.WordBytes.{word}
use Rattle.jsonb_codec.specs.Doc.{Doc, Children, type_of}
use Rattle.jsonb_codec.specs.Parts.{IsPayloadOf}
use Rattle.jsonb_codec.specs.Canon.{canon, payload_of, Fits}
use Rattle.jsonb_codec.proofs.TreeShapes.{entries_of, payloads_of, AllFit, Fits-parts}
use Rattle.jsonb_codec.proofs.TreeShapes.{type_of-shape_of, count-items_shapes}
use Rattle.jsonb_codec.proofs.Lengths.{canon-scalar, canon-container}
use Rattle.jsonb_codec.proofs.CanonLaws.{Doc-canon, type_of-norm}
use Rattle.jsonb.specs.ItemView.{ItemView, raw}
use Rattle.jsonb.specs.Entry.{Code}
use Rattle.jsonb.specs.Code.{scalar_bytes}
use Rattle.jsonb.specs.Storage.{document_code, codes_of}
use Rattle.jsonb.specs.Building.{AreShort, array_bytes, IsArrayOf}
use Rattle.jsonb.proofs.LeafLaws.{code_entries, code_payloads, array_of-parts}
use Rattle.jsonb.specs.Results.{AreDocuments, AreCanonical, IsArrayOfInputs}
use Rattle.jsonb.specs.StoredEntries.{AreCodesOf}
use Rattle.jsonb.proofs.StoredEntryLaws.{length-AreCodesOf}
use Rattle.jsonb.proofs.StorageLaws.{document_code-Scalar, document_code-container, same_payload}
use Rattle.jsonb.proofs.StorageLaws.{codes_of-AreCodes, AreCodes-codes_of, length-codes_of}
use Rattle.jsonb.proofs.StorageLaws.{AreStorable-FitArray, same_code}

pub map-map : {A B C : Type 0} (g : B → C) (f : A → B) (xs : List A)
    → map g (map f xs) ≡ map (λ x. g (f x)) xs
map-map g f [] = refl
map-map {C = C} g f (x ∷ xs) = cc (map-map g f xs)

-- the entry means the tree
abbrev pub IsCodeOf : Code → Tree → Type 0
IsCodeOf c t = IsPayloadOf c.type c.payload t

pub Children-AreCodesOf : (cs : List Code) (ts : Trees) → AreCodesOf cs ts → AreShort cs
    → Children ts (code_entries cs) (code_payloads cs)
Children-AreCodesOf [] no_trees h short = record { no_entries = refl; no_payloads = refl }
Children-AreCodesOf [] (tree t ts) h short = cc
Children-AreCodesOf (c ∷ cs) no_trees h short = absurd h
Children-AreCodesOf (c ∷ cs) (tree t ts) h short = record {
  payload = c.payload;
  other_entries = code_entries cs;
  other_payloads = code_payloads cs;
  entries_are = rw h.0.0;
  payloads_are = refl;
  short = short.0;
  means = h.0.1;
  others = Children-AreCodesOf cs ts h.1 short.1;
}

-- the array of entries that mean trees
pub Doc-array_bytes : (cs : List Code) (ts : Trees) → AreCodesOf cs ts → AreShort cs
    → length cs < 2 ^ 29 → Doc (array_bytes cs) (array ts)
Doc-array_bytes cs ts h short few =
    let n = length-AreCodesOf cs ts h in
    inr (
      refl,
      record {
        rest = code_entries cs ++ code_payloads cs;
        parts = cc (n, array_of-parts cs);
        later = record {
          few = rw n at few;
          entries = code_entries cs;
          payloads = code_payloads cs;
          parts = refl;
          items = Children-AreCodesOf cs ts h short;
        };
      },
    )

-- a document's entry means its tree
pub IsCodeOf-document_code : (b : List ℕ) (t : Tree) → Doc b t → IsCodeOf (document_code b) t
IsCodeOf-document_code b t (inl (other, h)) =
    rw (document_code-Scalar b t h) (refl, h.means)
IsCodeOf-document_code b t (inr (is, h)) =
    rw (document_code-container b t is h) (is, h)

AreCodesOf-documents : (bs : List (List ℕ)) (ts : Trees) → AreDocuments bs ts
    → AreCodesOf (codes_of (map raw bs)) ts
AreCodesOf-documents [] ts h = h
AreCodesOf-documents (b ∷ bs) no_trees h = absurd h
AreCodesOf-documents (b ∷ bs) (tree t ts) h =
    (IsCodeOf-document_code b t h.0, AreCodesOf-documents bs ts h.1)

-- what was built is the array of the items' entries
pub array_of-IsArrayOf : (xs : List ItemView) (bytes : List ℕ) → IsArrayOf xs bytes
    → bytes ≡ array_bytes (codes_of xs)
array_of-IsArrayOf xs bytes h =
    h.written ∙ ap array_bytes (codes_of-AreCodes xs h.fit.codes h.fit.are h.fit.short).0

pub Doc-IsArrayOf : (xs : List ItemView) (bytes : List ℕ) → IsArrayOf xs bytes → (ts : Trees)
    → AreCodesOf (codes_of xs) ts → Doc bytes (array ts)
Doc-IsArrayOf xs bytes h ts are =
    let fit = AreStorable-FitArray xs h.fit in
    rw (array_of-IsArrayOf xs bytes h) (Doc-array_bytes (codes_of xs) ts are
    (AreCodes-codes_of xs fit.0).1 (rw (length-codes_of xs) fit.1))

-- The entry of a canonical document is the one that is written for its tree.
pub document_code-canon : (b : List ℕ) (t : Tree) → IsTree t → Fits t → canon t ≡ b
    → document_code b ≡ record { type = type_of t; payload = payload_of t }
document_code-canon b t is fits same =
    of (rw same at (Doc-canon t is fits)) where
      of : Doc b (norm t) → document_code b ≡ record { type = type_of t; payload = payload_of t }
      of (inl (other, h)) =
          let scalar : b ≡ scalar_bytes (type_of t) (payload_of t) =
          sym same ∙ canon-scalar t (λ e. other (type_of-norm t ∙ e)) in
          let payload = same_payload (type_of t) _ (payload_of t) h.payload
          (sym scalar ∙ h.parts) in
          rw (document_code-Scalar b (norm t) h) (same_code _ _ (type_of-norm t) (sym payload))
      of (inr (whole, h)) =
          let container = sym (type_of-norm t) ∙ whole in
          rw (document_code-container b (norm t) whole h)
          (same_code _ _ (sym container) (sym same ∙ canon-container t container))

record AreWritten (cs : List Code) (ts : Trees) : Type 0 where
  entries : code_entries cs ≡ entries_of ts
  payloads : code_payloads cs ≡ payloads_of ts
  counted : length cs ≡ count ts
  fit : AllFit ts

AreWritten-canonical : (bs : List (List ℕ)) (ts : Trees) → AreCanonical bs ts
    → AreShort (codes_of (map raw bs)) → AreWritten (codes_of (map raw bs)) ts
AreWritten-canonical [] no_trees h short =
    record { entries = refl; payloads = refl; counted = refl; fit = tt }
AreWritten-canonical [] (tree t ts) h short = cc
AreWritten-canonical (b ∷ bs) no_trees h short = absurd h
AreWritten-canonical (b ∷ bs) (tree t ts) h short =
    let more = AreWritten-canonical bs ts h.1 short.1 in
    let code = document_code-canon b t h.0.0 h.0.1.0 h.0.1.1 in
    record {
      entries = cc (code, type_of-shape_of t, more.entries);
      payloads = cc (code, more.payloads);
      counted = ap suc more.counted;
      fit = (
        (lit< tt, (((Fits-parts t).0 h.0.1.0).inside, rw code at short.0)),
        more.fit,
      );
    }

-- What is built from canonical documents is canonical.
pub canon-documents : (bs : List (List ℕ)) (bytes : List ℕ) → IsArrayOf (map raw bs) bytes
    → (ts : Trees) → AreCanonical bs ts → Fits (array ts) × (bytes ≡ canon (array ts))
canon-documents bs bytes h ts are =
    let xs = map raw bs in
    let fit = AreStorable-FitArray xs h.fit in
    let w = AreWritten-canonical bs ts are (AreCodes-codes_of xs fit.0).1 in
    let few = rw (sym (length-codes_of xs) ∙ w.counted ∙ sym (count-items_shapes ts)) at fit.1 in (
      (few, w.fit),
      array_of-IsArrayOf xs bytes h ∙ array_of-parts (codes_of xs)
          ∙ ap₂ (λ n ys. word (2147483648 + n) ++ ys) (w.counted ∙ sym (count-items_shapes ts))
          (ap₂ (λ ys zs. ys ++ zs) w.entries w.payloads),
    )

-- what is built from inputs
pub IsArrayOfInputs-IsArrayOf : (bs : List (List ℕ)) (xs : List ItemView) (bytes : List ℕ)
    → xs ≡ map raw bs → IsArrayOf xs bytes → IsArrayOfInputs bs bytes
IsArrayOfInputs-IsArrayOf bs xs bytes same h =
    let array = rw same at h in
    record {
      array = array;
      document = λ ts are. Doc-IsArrayOf _ bytes array ts (AreCodesOf-documents bs ts are);
      canonical = canon-documents bs bytes array;
    }
