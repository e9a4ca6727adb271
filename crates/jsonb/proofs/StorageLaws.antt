-- The entry that is written for an item is the one that it has.
use Rattle.std.proofs.Common.{Ok, ◌≡◌, ℕ, ◌+◌, ◌*◌, ◌<◌, ◌^◌, List, [], ◌∷◌, ◌++◌, length}
use Rattle.std.proofs.Common.{unwrap_or, true, false, refl, sym, ap, ap₂}
use Rattle.std.proofs.Common.{◌∙◌, inl, inr, arith}
use Rattle.std.proofs.lemmas.List.{length-map}
use Rattle.jsonb_value.specs.Tree.{Tree}
use Rattle.jsonb_codec.specs.WordBytes.{word}
use Rattle.jsonb_codec.specs.Doc.{Doc, Scalar, Payload, type_of}
use Rattle.jsonb_codec.specs.Canon.{document_of}
use Rattle.jsonb_codec.specs.Parts.{IsPayloadOf}
use Rattle.jsonb_codec.proofs.Lengths.{document_of-scalar}
use Rattle.jsonb_codec.proofs.Words.{length-word, length-word-append, same_parts}
use Rattle.jsonb.specs.ItemView.{ItemView, boolean, raw, owned}
use Rattle.jsonb.specs.Entry.{Code}
use Rattle.jsonb.specs.Code.{HasCode, IsDocumentCode, scalar_bytes}
use Rattle.jsonb.specs.Storage.{entry_under, scalar_entry, document_code, entry_of_item, IsStored}
use Rattle.jsonb.specs.Storage.{AreStorable, codes_of}
use Rattle.jsonb.specs.Building.{AreCodes, AreShort}
use Rattle.jsonb.proofs.LeafLaws.{code_entries}
use Rattle.jsonb.specs.Building.{FitArray}
use Rattle.jsonb.proofs.KindLaws.{container_cases, header_at-Scalar, header_of_tree, header_at-Doc}
use Rattle.jsonb.proofs.ItemLaws.{entry_at-Scalar}

-- a scalar's document is stored with its own entry, an array or object whole
pub document_code-Scalar : (b : List ℕ) (t : Tree) (h : Scalar t b)
    → document_code b ≡ record { type = type_of t; payload = h.payload }
unfolding scalar_entry
document_code-Scalar b t h = rw (header_at-Scalar b t h, entry_at-Scalar b t h)

pub document_code-container : (b : List ℕ) (t : Tree) → type_of t ≡ 1342177280 → Payload t b
    → document_code b ≡ record { type = 1342177280; payload = b }
unfolding scalar_entry
document_code-container b t is h = rw (header_at-Doc b t (inr (is, h)))
    (container_cases (λ t. unwrap_or (entry_under (Ok (header_of_tree t)) b)
    (record { type = 1342177280; payload = b }) ≡ record { type = 1342177280; payload = b }) t is
    (λ ts. refl) (λ ps. refl))

pub same_code : (c d : Code) → c.type ≡ d.type → c.payload ≡ d.payload → c ≡ d
same_code c d = ap₂ (λ n p. record { type = n; payload = p })

-- Scalars whose bytes are the same have the same payload.
pub same_payload : (type n : ℕ) (p q : List ℕ)
    → scalar_bytes type p ≡ word 536870912 ++ (word n ++ q) → p ≡ q
same_payload type n p q e =
    let later = same_parts (word 536870912) (word 536870912) (word (type + length p) ++ p)
    (word n ++ q) refl e in
    (same_parts (word (type + length p)) (word n) p q
    (length-word (type + length p) ∙ sym (length-word n)) later.1).1

-- The single part of a document has the document's code.
pub document_code-part : (b : List ℕ) (t : Tree) (type : ℕ) (p : List ℕ) → Doc b t
    → IsPayloadOf type p t → document_of type p ≡ b
    → record { type = type; payload = p } ≡ document_code b
document_code-part b t type p (inl (other, h)) (is, means) parts =
    let scalar = document_of-scalar type p (λ e. other (is ∙ e)) in
    rw (document_code-Scalar b t h) (same_code _ _ (sym is)
    (same_payload type _ p h.payload (sym scalar ∙ parts ∙ h.parts)))
document_code-part b t type p (inr (whole, h)) (is, means) parts =
    let container = sym is ∙ whole in
    rw (document_code-container b t whole h) (same_code _ _ container (rw container at parts))

-- A document is stored with its code.
IsDocumentCode-document_code : (b : List ℕ) (t : Tree) → Doc b t
    → IsDocumentCode t b (document_code b).type (document_code b).payload
IsDocumentCode-document_code b t (inl (other, h)) =
    rw (document_code-Scalar b t h) (inl (other, (refl, h.parts)))
IsDocumentCode-document_code b t (inr (is, h)) =
    rw (document_code-container b t is h) (inr (is, (refl, refl)))

-- A document is stored with no other code.
document_code-IsDocumentCode : (b : List ℕ) (t : Tree) (c : Code) → Doc b t
    → IsDocumentCode t b c.type c.payload → c ≡ document_code b
document_code-IsDocumentCode b t c (inl (other, h)) (inl (q, k)) =
    rw (document_code-Scalar b t h) (same_code _ _ k.0
    (same_payload c.type _ c.payload h.payload (sym k.1 ∙ h.parts)))
document_code-IsDocumentCode b t c (inl (other, h)) (inr (q, k)) = absurd (other q)
document_code-IsDocumentCode b t c (inr (is, h)) (inl (q, k)) = absurd (q is)
document_code-IsDocumentCode b t c (inr (is, h)) (inr (q, k)) =
    rw (document_code-container b t is h) (same_code _ _ k.0 k.1)

-- An item is stored with its code.
pub HasCode-entry_of_item : (x : ItemView) → IsStored x
    → HasCode x (entry_of_item x).type (entry_of_item x).payload
HasCode-entry_of_item (boolean false) h = (refl, refl)
HasCode-entry_of_item (boolean true) h = (refl, refl)
HasCode-entry_of_item (raw b) h = (h.0, (h.1, IsDocumentCode-document_code b h.0 h.1))
HasCode-entry_of_item (owned b) h = (h.0, (h.1, IsDocumentCode-document_code b h.0 h.1))
HasCode-entry_of_item x h = (refl, refl)

pub IsStored-HasCode : (x : ItemView) (type : ℕ) (p : List ℕ) → HasCode x type p → IsStored x
IsStored-HasCode (raw b) type p h = (h.0, h.1.0)
IsStored-HasCode (owned b) type p h = (h.0, h.1.0)
IsStored-HasCode x type p h = tt

pub entry_of_item-HasCode : (x : ItemView) (c : Code) → HasCode x c.type c.payload
    → c ≡ entry_of_item x
entry_of_item-HasCode (boolean false) c h = same_code _ _ h.0 h.1
entry_of_item-HasCode (boolean true) c h = same_code _ _ h.0 h.1
entry_of_item-HasCode (raw b) c h = document_code-IsDocumentCode b h.0 c h.1.0 h.1.1
entry_of_item-HasCode (owned b) c h = document_code-IsDocumentCode b h.0 c h.1.0 h.1.1
entry_of_item-HasCode x c h = same_code _ _ h.0 h.1

-- items are stored with their codes
pub AreCodes-codes_of : (xs : List ItemView) → AreStorable xs → AreCodes xs (codes_of xs)
    × AreShort (codes_of xs)
AreCodes-codes_of [] h = (refl, tt)
AreCodes-codes_of (x ∷ xs) h =
    let more = AreCodes-codes_of xs h.1 in
    ((HasCode-entry_of_item x h.0.0, more.0), (h.0.1, more.1))

pub codes_of-AreCodes : (xs : List ItemView) (cs : List Code) → AreCodes xs cs → AreShort cs
    → (cs ≡ codes_of xs) × AreStorable xs
codes_of-AreCodes [] cs h short = (h, tt)
codes_of-AreCodes (x ∷ xs) [] h short = absurd h
codes_of-AreCodes (x ∷ xs) (c ∷ cs) h short =
    let (same, storable) = codes_of-AreCodes xs cs h.1 short.1 in
    let here = entry_of_item-HasCode x c h.0 in (
      ap₂ (λ d ds. d ∷ ds) here same,
      ((IsStored-HasCode x c.type c.payload h.0, rw here at short.0), storable),
    )

pub length-codes_of : (xs : List ItemView) → length (codes_of xs) ≡ length xs
length-codes_of xs = length-map xs entry_of_item

pub length-code_entries : (cs : List Code) → length (code_entries cs) ≡ 4 * length cs
length-code_entries [] = refl
length-code_entries (c ∷ cs) =
    let more = length-code_entries cs in
    omega (arith, length-word-append (c.type + length c.payload) (code_entries cs))

-- If an array can be built from items, they can be stored.
pub AreStorable-FitArray : (xs : List ItemView) → FitArray xs → AreStorable xs
    × (length xs < 2 ^ 29)
AreStorable-FitArray xs fit =
    let codes = codes_of-AreCodes xs fit.codes fit.are fit.short in
    (codes.1, omega (arith, ap length codes.0, length-codes_of xs, fit.few))
