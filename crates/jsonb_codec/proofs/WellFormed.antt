-- Bytes mean a tree that a `Value` can have: numbers in the range of their types, texts in UTF-8,
-- ascending keys.
use Rattle.std.proofs.Common.{◌≡◌, ℕ, ◌+◌, List, ◌++◌, length, inl, inr}
use Rattle.jsonb_value.specs.Tree.{Tree, number, text, extension, array, object, Trees, no_trees}
use Rattle.jsonb_value.specs.Tree.{tree, Pairs, no_pairs, pair}
use Rattle.jsonb_value.specs.WellFormed.{IsTree, AreTrees, ArePairs}
use Rattle.jsonb_value.proofs.BigEndian.{AreBytes, AreBytes-equal, AreBytes-front, AreBytes-back}
use Rattle.jsonb_value.proofs.PayloadLaws.{IsNumber-NumCode, IsExtension-ExtCode}
use Rattle.jsonb_codec.specs.WordBytes.{word}
use Rattle.jsonb_codec.specs.Doc.{type_of, Keys, Values, Children, Payload, Doc}
use Rattle.jsonb_codec.proofs.Containers.{Container, array_container, object_container}

parts_are_bytes : {bs : List ℕ} (xs ys : List ℕ) → bs ≡ xs ++ ys → AreBytes bs
    → AreBytes xs × AreBytes ys
parts_are_bytes xs ys e h =
    let whole = AreBytes-equal _ (xs ++ ys) e h in
    (AreBytes-front xs ys whole, AreBytes-back xs ys whole)

payload_bytes : {t : Tree} {b : List ℕ} → AreBytes b → (f : Container t b) → AreBytes f.payloads
payload_bytes bytes f =
    (parts_are_bytes f.entries f.payloads f.body (parts_are_bytes _ f.rest f.parts bytes).1).1

mutual
  pub IsTree-Payload : (t : Tree) (p : List ℕ) → AreBytes p → Payload t p → IsTree t
  IsTree-Payload (number x) p bytes h = IsNumber-NumCode p x bytes h
  IsTree-Payload (text s) p bytes h = h.1
  IsTree-Payload (extension e) p bytes h = IsExtension-ExtCode p e bytes h
  IsTree-Payload (array ts) p bytes h =
      let f = array_container ts p h in
      AreTrees-Children ts _ _ (payload_bytes bytes f) f.items
  IsTree-Payload (object ps) p bytes h =
      let b = h.1.later in
      let payloads = payload_bytes bytes (object_container ps p h) in (
        h.0,
        ArePairs-Values ps _ _ _ _
            (AreBytes-back b.key_payloads b.value_payloads payloads) b.keys b.values,
      )
  IsTree-Payload t p bytes h = tt

  AreTrees-Children : (ts : Trees) (e p : List ℕ) → AreBytes p → Children ts e p → AreTrees ts
  AreTrees-Children no_trees e p bytes h = tt
  AreTrees-Children (tree t ts) e p bytes h =
      let parts = parts_are_bytes h.payload h.other_payloads h.payloads_are bytes in (
        IsTree-Payload t h.payload parts.0 h.means,
        AreTrees-Children ts _ _ parts.1 h.others,
      )

  ArePairs-Values : (ps : Pairs) (ke kp e p : List ℕ) → AreBytes p → Keys ps ke kp → Values ps e p
      → ArePairs ps
  ArePairs-Values no_pairs ke kp e p bytes k h = tt
  ArePairs-Values (pair key t ps) ke kp e p bytes k h =
      let parts = parts_are_bytes h.payload h.other_payloads h.payloads_are bytes in (
        k.means.1,
        (
          IsTree-Payload t h.payload parts.0 h.means,
          ArePairs-Values ps _ _ _ _ parts.1 k.others h.others,
        ),
      )

-- The tree of a document is such a tree.
pub IsTree-Doc : (b : List ℕ) (t : Tree) → AreBytes b → Doc b t → IsTree t
IsTree-Doc b t bytes (inl (q, h)) =
    let entry = (parts_are_bytes (word 536870912) _ h.parts bytes).1 in
    IsTree-Payload t h.payload (AreBytes-back (word (type_of t + length h.payload)) _ entry) h.means
IsTree-Doc b t bytes (inr h) = IsTree-Payload t b bytes h.1
