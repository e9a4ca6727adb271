-- The order of byte strings by meaning.
use Rattle.std.proofs.Common.{◌≡◌, ℕ, List, Some, Ok, ap₂, ◌∙◌}
use Rattle.std.specs.declared.cmp.Ordering.{Ordering}
use Rattle.std.specs.declared.cmp.Ordering.TheVariants.{Equal}
use Rattle.std.specs.Ordering.{on}
use Rattle.std.specs.Cmp.{IsTotalOrder}
use Rattle.std.proofs.lemmas.Cmp.{on_total, alike_right}
use Rattle.jsonb_value.specs.Meaning.{Meaning, meaning_cmp}
use Rattle.jsonb_value.specs.Norm.{norm}
use Rattle.jsonb_value.specs.Tree.{Tree, null, boolean, number, text, extension, array, object}
use Rattle.jsonb_value.specs.TreeOrder.{tree_cmp}
use Rattle.jsonb_value.proofs.KindLaws.{tree_cmp-itself, tree_cmp-norm}
use Rattle.jsonb_value.proofs.MeaningLaws.{meaning_cmp_total}
use Rattle.jsonb_codec.specs.Doc.{Doc, IsDocument}
use Rattle.jsonb.specs.declared.item_type.JsonbItemType.{JsonbItemType}
use Rattle.jsonb.specs.Code.{ItemMeans}
use Rattle.jsonb.specs.Kind.{kind, kind_of_tree, rank_order}
use Rattle.jsonb.specs.ItemMeaning.{meaning_of, view_meaning}
use Rattle.jsonb.specs.ItemView.{ItemView}
use Rattle.jsonb.proofs.KindLaws.{kind-Doc}
use Rattle.jsonb.proofs.ItemMeaningLaws.{meaning_of-document, view_meaning-document}

pub bytes_total : IsTotalOrder (on meaning_of meaning_cmp)
bytes_total = on_total meaning_of meaning_cmp_total

-- Documents compare as their trees.
pub bytes_cmp-trees : (l r : List ℕ) (t u : Tree) → Doc l t → Doc r u
    → meaning_cmp (meaning_of l) (meaning_of r) ≡ tree_cmp t u
bytes_cmp-trees l r t u h k =
    ap₂ meaning_cmp (meaning_of-document l t h) (meaning_of-document r u k)

-- Documents of one tree are equal.
pub bytes_cmp-one_tree : (l r : List ℕ) (t : Tree) → Doc l t → Doc r t
    → meaning_cmp (meaning_of l) (meaning_of r) ≡ Equal
bytes_cmp-one_tree l r t h k = bytes_cmp-trees l r t t h k ∙ tree_cmp-itself t

-- Items that mean one tree are equal.
pub items_cmp-one_tree : (x y : ItemView) (t : Tree) → ItemMeans x t → ItemMeans y t
    → meaning_cmp (view_meaning x) (view_meaning y) ≡ Equal
items_cmp-one_tree x y t h k =
    ap₂ meaning_cmp (view_meaning-document x t h) (view_meaning-document y t k) ∙ tree_cmp-itself t

-- If the kinds determine an order, the trees have that order.
tree_cmp-kinds : (t u : Tree) (o : Ordering) → rank_order (kind_of_tree t) (kind_of_tree u) ≡ Some o
    → tree_cmp t u ≡ o
tree_cmp-kinds null null o e = cc
tree_cmp-kinds (array ts) (array us) o e = cc
tree_cmp-kinds (object ps) (object qs) o e = cc
tree_cmp-kinds (text s) (text r) o e = cc
tree_cmp-kinds (number x) (number y) o e = cc
tree_cmp-kinds (boolean a) (boolean b) o e = cc
tree_cmp-kinds (extension d) (extension f) o e = cc
tree_cmp-kinds t u o e = cc

-- If the kinds determine an order, the documents have that order.
pub bytes_cmp-kinds : (l r : List ℕ) (k m : JsonbItemType) (o : Ordering) → IsDocument l
    → IsDocument r → kind l ≡ Ok k → kind r ≡ Ok m → rank_order k m ≡ Some o
    → meaning_cmp (meaning_of l) (meaning_of r) ≡ o
bytes_cmp-kinds l r k m o h g left right e =
    let left_kind = kind-Doc l h.0 h.1 in
    let right_kind = kind-Doc r g.0 g.1 in
    let same_left : k ≡ kind_of_tree h.0 = cc in
    let same_right : m ≡ kind_of_tree g.0 = cc in
    bytes_cmp-trees l r h.0 g.0 h.1 g.1
    ∙ tree_cmp-kinds h.0 g.0 o (cc (same_left, same_right, e))

-- A tree and its normal form compare alike with everything.
tied_left : (m n k : Meaning) → meaning_cmp m n ≡ Equal → meaning_cmp m k ≡ meaning_cmp n k
tied_left m n k e = meaning_cmp_total.congr m n k e

pub bytes_cmp-norm : (l m r : List ℕ) (t : Tree) → Doc l t → Doc m (norm t)
    → meaning_cmp (meaning_of m) (meaning_of r) ≡ meaning_cmp (meaning_of l) (meaning_of r)
bytes_cmp-norm l m r t h k = tied_left (meaning_of m) (meaning_of l) (meaning_of r)
    (bytes_cmp-trees m l (norm t) t k h ∙ tree_cmp-norm t t ∙ tree_cmp-itself t)

pub bytes_cmp-right_norm : (l r m : List ℕ) (u : Tree) → Doc r u → Doc m (norm u)
    → meaning_cmp (meaning_of l) (meaning_of m) ≡ meaning_cmp (meaning_of l) (meaning_of r)
bytes_cmp-right_norm l r m u h k = alike_right meaning_cmp_total (meaning_of m) (meaning_of r)
    (meaning_of l) (bytes_cmp-trees m r (norm u) u k h ∙ tree_cmp-norm u u ∙ tree_cmp-itself u)
