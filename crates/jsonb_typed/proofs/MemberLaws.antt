-- A member of a document has a document of its own.
use Rattle.std.proofs.Common.{◌≡◌, ◌==◌, ◌&&◌, ℕ, zero, suc, Bool, true, false, List, [], ◌∷◌}
use Rattle.std.proofs.Common.{◌<◌, ◌^◌, length, refl, sym, subst, if◌then◌else◌, inl, inr}
use Rattle.std.specs.Prelude.{Option, Some, None, Ok, IfSome, nat_eq, option_map, slice_get}
use Rattle.std.specs.Map.{keys_of, values_of}
use Rattle.std.specs.Cmp.Lexicographic.{pointwise}
use Rattle.jsonb_value.specs.Tree.{Tree, array, object, Trees, no_trees, tree, Pairs, no_pairs}
use Rattle.jsonb_value.specs.Tree.{pair, count}
use Rattle.jsonb_codec.specs.Doc.{Doc}
use Rattle.jsonb_codec.specs.Parts.{IsPayloadOf}
use Rattle.jsonb.specs.declared.document.Document.{Document}
use Rattle.jsonb.specs.declared.node.Node.{Node}
use Rattle.jsonb.specs.Building.{AreShort}
use Rattle.jsonb.specs.Code.{HasDocument, ItemMeans}
use Rattle.jsonb.specs.Document.{document_bytes, document_tree, tree_in}
use Rattle.jsonb.specs.DocumentWalk.{IsItemIn}
use Rattle.jsonb.specs.Entry.{Code}
use Rattle.jsonb.specs.Item.{item_in}
use Rattle.jsonb.specs.ItemView.{ItemView, raw, owned}
use Rattle.jsonb.specs.Node.{node_tree, node_view}
use Rattle.jsonb.specs.StoredEntries.{AreCodesOf, AreMemberEntriesOf, IsFoundIn, entry_item}
use Rattle.jsonb.specs.StoredEntries.{find_entry}
use Rattle.jsonb.proofs.DocumentLaws.{tree_of_bytes}
use Rattle.jsonb.proofs.ItemDocuments.{node_means, stored_document}
use Rattle.jsonb.proofs.ItemLaws.{item_in-Doc}
use Rattle.jsonb.proofs.StoredEntryLaws.{entry_item-tree}
use Rattle.jsonb_functions.specs.declared.path.Step.{Step}
use Rattle.jsonb_functions.specs.declared.path.Step.TheVariants.{Key, Index, FromEnd, End}
use Rattle.jsonb_functions.specs.FoundEntries.{IsChildIn, IsChildOf, IsFoundAt, IsFoundFrom}
use Rattle.jsonb_functions.specs.FoundEntries.{IsItemThere}
use Rattle.jsonb_functions.specs.Path.{item_place}

-- What the item means, its own document means.
abbrev IsOwn : ItemView → Type 0
IsOwn x = (t : Tree) → ItemMeans x t → HasDocument x t

read_own : (c : Code) (t : Tree) (x : ItemView) → IsPayloadOf c.type c.payload t → length c.payload < 2 ^ 28
    → entry_item c ≡ Ok x → IsOwn x
read_own c t x means short is =
    let (y, (item, of)) = entry_item-tree c t means short in
    let same : y ≡ x = cc (item, is) in subst IsOwn same (stored_document t y of)

item_own : (cs : List Code) (ts : Trees) → AreCodesOf cs ts → AreShort cs → (index : ℕ)
    (x : ItemView) → option_map entry_item (slice_get cs index) ≡ Some (Ok x) → IsOwn x
item_own [] ts are short index x is = absurd cc
item_own (c ∷ cs) no_trees are short index x is = absurd are
item_own (c ∷ cs) (tree t ts) are short zero x is = read_own c t x are.0 short.0 cc
item_own (c ∷ cs) (tree t ts) are short (suc index) x is =
    item_own cs ts are.1 short.1 index x is

module _ (accepts : List ℕ → Bool) (size : ℕ) where
  value_own : (ms : List (List ℕ × Code)) (ps : Pairs)
      → AreMemberEntriesOf (keys_of ms) (values_of ms) ps → AreShort (values_of ms)
      → (x : ItemView) → option_map entry_item (find_entry accepts size ms) ≡ Some (Ok x) → IsOwn x
  value_own [] ps are short x is = absurd cc
  value_own (m ∷ ms) no_pairs are short x is = absurd are
  value_own (m ∷ ms) (pair k t ps) are short x is =
      by ((length m.0 == size) && accepts m.0)
      (λ later. value_own ms ps are.1.1 short.1 x later) is where
        by : (a : Bool)
            → (option_map entry_item (find_entry accepts size ms) ≡ Some (Ok x) → IsOwn x)
            → option_map entry_item (if a then Some m.1 else find_entry accepts size ms) ≡ Some (Ok x)
            → IsOwn x
        by true rest here = read_own m.1 t x are.1.0 short.0 cc
        by false rest later = rest later

  found_in : (b : List ℕ) (t : Tree) (x : ItemView) → IsFoundIn accepts size b t (Some x) → IsOwn x
  found_in b (object ps) x (ms, (stored, is)) = value_own ms ps stored.mean stored.short x is
  found_in b t x is = absurd cc

there_own : (place : Option (ℕ × Bool)) (b : List ℕ) (ts : Trees) (x : ItemView)
    → IsItemThere place b (array ts) (Some x) → IsOwn x
there_own None b ts x is = absurd cc
there_own (Some (before, true)) b ts x (entries, (stored, is)) =
    item_own entries ts stored.mean stored.short before x is
there_own (Some (before, false)) b ts x is = absurd cc

child_in : (s : Step) (b : List ℕ) (t : Tree) (x : ItemView) → IsChildIn s b t (Some x) → IsOwn x
child_in (Key k) b (array ts) x is = there_own (item_place (Key k) (count ts)) b ts x is
child_in (Index i) b (array ts) x is = there_own (item_place (Index i) (count ts)) b ts x is
child_in (FromEnd i) b (array ts) x is = there_own (item_place (FromEnd i) (count ts)) b ts x is
child_in End b (array ts) x is = there_own (item_place End (count ts)) b ts x is
child_in (Key k) b t x is = found_in (pointwise nat_eq k.now) (length k.now) b t x is
child_in s b t x is = absurd cc

child_own : (s : Step) (x y : ItemView) → IsChildOf s x (Some y) → IsOwn y
child_own s (raw b) y is = child_in s b (tree_in b) y is
child_own s (owned b) y is = child_in s b (tree_in b) y is
child_own s x y is = absurd cc

found_own : (path : List Step) (x y : ItemView) → IsOwn x → IsFoundFrom path x (Some y) → IsOwn y
found_own [] x y own is = let same : x ≡ y = cc in subst IsOwn same own
found_own (s ∷ path) x y own (None, (is, gone)) = absurd cc
found_own (s ∷ path) x y own (Some z, (is, later)) =
    found_own path z y (child_own s x z is) later

whole_own : (b : List ℕ) (t : Tree) → Doc b t → (x : ItemView) → item_in b ≡ Ok x → IsOwn x
whole_own b t doc x is =
    let (y, (item, own)) = item_in-Doc b t doc in
    let same : y ≡ x = cc (item, is) in
    subst IsOwn same (by y own.0) where
      by : (y : ItemView) → IsItemIn t b y → IsOwn y
      by y (inl (other, of)) = stored_document t y of
      by y (inr (whole, same)) = subst IsOwn (sym same) (λ u doc. (tt, doc))

at_path : (path : List Step) (d : Document) (x : ItemView)
    → IsFoundAt path (document_bytes d) (Some x) → IsOwn x
at_path path d x (y, (whole, found)) = found_own path y x
    (whole_own (document_bytes d) (document_tree d) (tree_of_bytes _ d refl) y whole) found

-- What a look-up finds has a document of its own.
pub key_document : (accepts : List ℕ → Bool) (size : ℕ) (d : Document) (found : Option Node)
    → IsFoundIn accepts size (document_bytes d) (document_tree d) (option_map node_view found)
    → IfSome found (λ node. HasDocument (node_view node) (node_tree node))
key_document accepts size d None is = tt
key_document accepts size d (Some node) is = found_in accepts size (document_bytes d)
    (document_tree d) (node_view node) is (node_tree node) (node_means node)

pub path_document : (path : List Step) (d : Document) (found : Option Node)
    → IsFoundAt path (document_bytes d) (option_map node_view found)
    → IfSome found (λ node. HasDocument (node_view node) (node_tree node))
path_document path d None is = tt
path_document path d (Some node) is =
    at_path path d (node_view node) is (node_tree node) (node_means node)
