-- The shapes of trees: their counts, types and keys, and what a document is made of.
use Rattle.std.proofs.Common.{◌≡◌, ◌↔◌, ◌<◌, ◌^◌, ℕ, List, suc, true, false, length, refl, ap}
use Rattle.std.proofs.Common.{rules}
use Rattle.jsonb_value.specs.Tree as trees
use Rattle.jsonb_value.specs.Tree.{Tree, null, boolean, array, object}
use Rattle.jsonb_value.specs.Tree.{Trees, no_trees, tree, Pairs, no_pairs, pair, pair_count}
use Rattle.jsonb_codec.specs.Doc as doc
use Rattle.jsonb_codec.specs.Shape as shapes
use Rattle.jsonb_codec.specs.Shape.{shape_count, shape_type, entries, payloads}
use Rattle.jsonb_codec.specs.Canon.{shape_of, items_shapes, pairs_shapes, payload_of, document_of}
use Rattle.jsonb_codec.specs.Canon.{canon, Fits}

pub count-items_shapes : (ts : Trees) → shape_count (items_shapes ts) ≡ trees.count ts
count-items_shapes no_trees = refl
count-items_shapes (tree t ts) = ap suc (count-items_shapes ts)

pub count-pairs_shapes : (ps : Pairs) → shape_count (pairs_shapes ps) ≡ pair_count ps
count-pairs_shapes no_pairs = refl
count-pairs_shapes (pair k t ps) = ap suc (count-pairs_shapes ps)

pub type_of-shape_of : (t : Tree) → shape_type (shape_of t) ≡ doc.type_of t
type_of-shape_of null = refl
type_of-shape_of t = refl

-- The parts that are written for an array's items and an object's pairs, and whether they fit.
abbrev pub entries_of : Trees → List ℕ
entries_of ts = entries (items_shapes ts)

abbrev pub payloads_of : Trees → List ℕ
payloads_of ts = payloads (items_shapes ts)

abbrev pub key_entries : Pairs → List ℕ
key_entries ps = shapes.key_entries (pairs_shapes ps)

abbrev pub key_payloads : Pairs → List ℕ
key_payloads ps = shapes.key_payloads (pairs_shapes ps)

abbrev pub value_entries : Pairs → List ℕ
value_entries ps = entries (pairs_shapes ps)

abbrev pub value_payloads : Pairs → List ℕ
value_payloads ps = payloads (pairs_shapes ps)

abbrev pub FitsInside : Tree → Type 0
FitsInside t = shapes.FitsInside (shape_of t)

abbrev pub AllFit : Trees → Type 0
AllFit ts = shapes.AllFit (items_shapes ts)

abbrev pub PairsFit : Pairs → Type 0
PairsFit ps = shapes.AllFit (pairs_shapes ps)

-- The canonical document is that of the tree's type and payload.
pub canon-parts : (t : Tree) → canon t ≡ document_of (doc.type_of t) (payload_of t)
canon-parts (boolean true) = refl
canon-parts (boolean false) = refl
canon-parts t = refl

-- The length of a top-level container is not limited, since it has no entry word.
pub record FitParts (t : Tree) : Type 0 where
  pub inside : FitsInside t
  pub short : (doc.type_of t ≡ 1342177280 → ⊥) → length (payload_of t) < 2 ^ 28

pub Fits-parts : (t : Tree) → Fits t ↔ FitParts t
Fits-parts (array ts) =
    (λ h. record { inside = h; short = λ other. absurd (other refl) }, λ h. h.inside)
Fits-parts (object ps) =
    (λ h. record { inside = h; short = λ other. absurd (other refl) }, λ h. h.inside)
Fits-parts (boolean true) =
    (λ h. record { inside = tt; short = λ other. h }, λ h. h.short (search rules))
Fits-parts t = (λ h. record { inside = tt; short = λ other. h }, λ h. h.short (search rules))
