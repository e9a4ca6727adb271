-- What bytes mean within a depth.
use Rattle.std.proofs.Common.{◌≡◌, ◌≤◌, ◌↔◌, ◌∙◌, ℕ, List, ap, arith, inl, inr, length, refl, sym}
use Rattle.std.specs.Prelude.{true, false, nat_le}
use Rattle.std.proofs.lemmas.Bool.Decides.{nat_tests}
use Rattle.jsonb_value.specs.Meaning.{document, other_bytes}
use Rattle.jsonb_value.specs.Tree.{Tree}
use Rattle.jsonb_value.proofs.PayloadDecision.{Decided}
use Rattle.jsonb_codec.specs.Depth.{depth, IsDocumentWithin}
use Rattle.jsonb_codec.specs.Doc.{Doc, IsDocument}
use Rattle.jsonb_codec.proofs.Decision.{decide}
use Rattle.jsonb_codec.proofs.DepthLaws.{Doc-depth}
use Rattle.jsonb_codec.proofs.Unique.{Doc-unique}
use Rattle.jsonb.specs.Document.{tree_in, tree_or_null}
use Rattle.jsonb.specs.ItemMeaning.{meaning_of, meaning_or_bytes}
use Rattle.jsonb.specs.Within.{limited, meaning_within}
use Rattle.jsonb.proofs.DocumentLaws.{tree_in-is}
use Rattle.jsonb.proofs.ItemMeaningLaws.{meaning_of-document, meaning_of-other}

shallow : (t : Tree) (d : ℕ) → depth t ≤ d → nat_le (depth t) d ≡ true
shallow t d h = grind (arith, nat_tests)

deep : (t : Tree) (d : ℕ) → (depth t ≤ d → ⊥) → nat_le (depth t) d ≡ false
deep t d h = grind (arith, nat_tests, h)

found_within : (d : ℕ) (b : List ℕ) (known : Decided (IsDocument b)) → IsDocumentWithin d b
    → document (tree_or_null b known) ≡ limited d b (meaning_or_bytes b known)
found_within d b (inl (t, h)) (u, (small, g)) =
    let same : t ≡ u = Doc-unique b t u h g in
    rw (shallow t d (rw same small)) refl
found_within d b (inr none) (u, (small, g)) = absurd (none (u, g))

-- A document that nests at most that deep means its tree,
pub tree_within : (d : ℕ) (b : List ℕ) → IsDocumentWithin d b
    → document (tree_in b) ≡ meaning_within d b
unfolding tree_in meaning_of
tree_within d b h = found_within d b (decide b) h

none_within : (d : ℕ) (b : List ℕ) (known : Decided (IsDocument b)) → (IsDocumentWithin d b → ⊥)
    → other_bytes b ≡ limited d b (meaning_or_bytes b known)
none_within d b (inl (t, h)) none =
    rw (deep t d (λ small. none (t, (small, h)))) refl
none_within d b (inr denied) none = refl

-- and all other bytes mean themselves.
pub bytes_within : (d : ℕ) (b : List ℕ) → (IsDocumentWithin d b → ⊥)
    → other_bytes b ≡ meaning_within d b
unfolding meaning_of
bytes_within d b none = none_within d b (decide b) none

-- A document that does not nest deeper means its tree.
pub document_within : (b : List ℕ) (t : Tree) (d : ℕ) → Doc b t → depth t ≤ d
    → meaning_within d b ≡ document t
document_within b t d doc shallow =
    sym (tree_within d b (t, (shallow, doc))) ∙ ap document (tree_in-is b t doc)

-- A document has no more levels than bytes.
levels : (b : List ℕ) (t : Tree) (d : ℕ) → Doc b t → length b ≤ d → depth t ≤ d
levels b t d doc long = omega (arith, Doc-depth b t doc, long)

-- So bytes no longer than the depth are a document of at most that depth if they are one at all,
pub any_document : (b : List ℕ) (d : ℕ) → length b ≤ d → IsDocumentWithin d b ↔ IsDocument b
any_document b d long =
    (λ (t, (shallow, doc)). (t, doc), λ (t, doc). (t, (levels b t d doc long, doc)))

any_by : (b : List ℕ) (d : ℕ) → length b ≤ d → Decided (IsDocument b)
    → meaning_within d b ≡ meaning_of b
any_by b d long (inl (t, doc)) =
    document_within b t d doc (levels b t d doc long) ∙ sym (meaning_of-document b t doc)
any_by b d long (inr none) =
    sym (bytes_within d b (λ found. none ((any_document b d long).0 found)))
    ∙ sym (meaning_of-other b none)

-- and mean what they mean without a depth.
pub any_meaning : (b : List ℕ) (d : ℕ) → length b ≤ d → meaning_within d b ≡ meaning_of b
any_meaning b d long = any_by b d long (decide b)
