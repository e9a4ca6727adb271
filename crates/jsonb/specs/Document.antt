-- The meaning of a checked document.
use Rattle.std.specs.Prelude.{ℕ, List}
use Rattle.std.proofs.Common.{inl, inr}
use Rattle.jsonb_value.specs.Tree.{Tree, null}
use Rattle.jsonb_value.proofs.PayloadDecision.{Decided}
use Rattle.jsonb_codec.specs.Doc.{IsDocument}
use Rattle.jsonb_codec.specs.DocumentBytes.{bytes_of}
use Rattle.jsonb_codec.proofs.Decision.{decide}
use Rattle.jsonb.specs.declared.document.Document.{Document}

-- The tree of a document, and null for other bytes.
abbrev pub tree_or_null : (b : List ℕ) → Decided (IsDocument b) → Tree
tree_or_null b (inl found) = found.0
tree_or_null b (inr none) = null

-- The tree that the bytes mean; null if they are not a document.
unfoldable pub tree_in : List ℕ → Tree
tree_in b = tree_or_null b (decide b)

-- The bytes of a document.
abbrev pub document_bytes : Document → List ℕ
document_bytes d = bytes_of d.bytes

-- The tree of a document.
abbrev pub document_tree : Document → Tree
document_tree d = tree_in (document_bytes d)
