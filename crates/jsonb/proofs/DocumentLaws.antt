-- A checked document is a document of its tree.
use Rattle.std.proofs.Common.{◌≡◌, ◌↔◌, ℕ, List, Option, Some, None, IfSome, IsSome, inl, inr, sym}
use Rattle.std.proofs.Common.{subst}
use Rattle.std.proofs.Math.Logic.{∥∥₁_elim}
use Rattle.jsonb_value.specs.Tree.{Tree}
use Rattle.jsonb_value.proofs.PayloadDecision.{Decided}
use Rattle.jsonb_codec.specs.Doc.{Doc, IsDocument}
use Rattle.jsonb_codec.proofs.Decision.{decide}
use Rattle.jsonb_codec.proofs.Unique.{Doc-unique}
use Rattle.jsonb_value.specs.Meaning.{document}
use Rattle.jsonb.specs.declared.document.Document.{Document}
use Rattle.jsonb.specs.Document.{tree_or_null, tree_in, document_bytes, document_tree}
use Rattle.jsonb.specs.ItemMeaning.{meaning_of}
use Rattle.jsonb.proofs.ItemMeaningLaws.{meaning_of-document}

empty_prop : IsProp ⊥
empty_prop = Prim.hlevel

found_at : (b : List ℕ) → ∥ IsDocument b ∥₁ → (d : Decided (IsDocument b))
    → Doc b (tree_or_null b d)
found_at b known (inl found) = found.1
found_at b known (inr none) = absurd (∥∥₁_elim known empty_prop none)

pub known_Doc : (b : List ℕ) → ∥ IsDocument b ∥₁ → Doc b (tree_in b)
unfolding tree_in
known_Doc b known = found_at b known (decide b)

-- the tree is the one that the bytes mean
found_is : (b : List ℕ) (t : Tree) → Doc b t → (d : Decided (IsDocument b)) → tree_or_null b d ≡ t
found_is b t doc (inl found) = Doc-unique b found.0 t found.1 doc
found_is b t doc (inr none) = absurd (none (t, doc))

pub tree_in-is : (b : List ℕ) (t : Tree) → Doc b t → tree_in b ≡ t
unfolding tree_in
tree_in-is b t doc = found_is b t doc (decide b)

-- a document with these bytes means their tree
pub tree_of_bytes : (b : List ℕ) (d : Document) → document_bytes d ≡ b → Doc b (document_tree d)
tree_of_bytes b d is =
    subst (λ x. Doc x (document_tree d)) is (known_Doc (document_bytes d) d.bytes.fact)

pub document_tree-is : (b : List ℕ) (t : Tree) (found : Option Document) → Doc b t
    → IfSome found (λ d. document_bytes d ≡ b) → IfSome found (λ d. document_tree d ≡ t)
document_tree-is b t None doc h = tt
document_tree-is b t (Some d) doc h =
    tree_in-is (document_bytes d) t (rw h doc)

-- the bytes mean the document's tree
pub document_meaning : (b : List ℕ) (d : Document) → document_bytes d ≡ b
    → document (document_tree d) ≡ meaning_of b
document_meaning b d is = sym (meaning_of-document b (document_tree d) (tree_of_bytes b d is))

-- the empty option of documents
abbrev pub nothing : Option Document
nothing = None

pub no_document : (b : List ℕ) → IsSome nothing ↔ IsDocument b → IsDocument b → ⊥
no_document b known d = let some = known.1 d in cc
