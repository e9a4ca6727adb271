-- Names in order, and the members that they pick.
use Rattle.std.proofs.Common.{◌≡◌, ◌<◌, ◌≤◌, ℕ, List, length, refl, sym, ap, ◌∙◌, Bor}
use Rattle.std.proofs.Common.{Bool, true, false, arith, nat_lt, get_or}
use Rattle.std.specs.Prelude.{Result, Ok, Err, is_ok, IsPermutation}
use Rattle.std.specs.Cmp.Lexicographic.{slice_cmp, nat_list_cmp_total, texts_ties}
use Rattle.std.specs.declared.cmp.Ordering.{Ordering}
use Rattle.std.specs.declared.cmp.Ordering.TheVariants.{Less, Greater}
use Rattle.std.specs.List.Sorted.{IsBinarySearchResult, IsSearchInRange}
use Rattle.std.specs.Ordering.{nat_cmp, is_eq}
use Rattle.std.specs.Str.{bytes_eq}
use Rattle.std.proofs.lemmas.Bool.{ltb-true, ltb-false}
use Rattle.std.proofs.lemmas.List.Folds.{list_any_at, list_any_none}
use Rattle.std.proofs.lemmas.List.Sorted.{list_any-IsPermutation, searchable_from_sorted}
use Rattle.jsonb_value.specs.Tree.{Tree, Trees, Pairs, no_pairs, pair, null, boolean, number, text}
use Rattle.jsonb_value.specs.Tree.{extension, array, object}
use Rattle.jsonb_codec.specs.declared.constants.TheConstants.{CONTAINER_TAG}
use Rattle.jsonb_codec.specs.Doc.{type_of}
use Rattle.jsonb_functions.specs.declared.choice.Kept.{Kept}
use Rattle.jsonb_functions.specs.Picked.{AreSorted, is_named, picked, picked_pairs}

-- What is less before a place and greater from there on is nowhere the same.
pub not_same : (o : Ordering) (i j : ℕ) (b : Bool) → nat_lt j i ≡ b → (j < i → o ≡ Less)
    → (i ≤ j → o ≡ Greater) → is_eq o ≡ false
not_same o i j true e less more = ap is_eq (less (ltb-true j i e))
not_same o i j false e less more = ap is_eq (more (ltb-false j i e))

-- A search among names in order finds a key exactly if it is one of them.
pub search_finds : (names : List (Bor (List ℕ))) (k : Bor (List ℕ)) (r : Result ℕ ℕ)
    → AreSorted names → IsSearchInRange r (length names)
    → IsBinarySearchResult (λ y. slice_cmp nat_cmp y.now k.now) names r
    → is_ok r ≡ is_named names k.now
search_finds names k (Ok i) sorted range found =
    sym (list_any_at (λ name. bytes_eq name.now k.now) names i k range
    (texts_ties (get_or names i k).now k.now ∙ ap is_eq (found k)))
search_finds names k (Err i) sorted range found =
    let (less, more) =
    found (searchable_from_sorted nat_list_cmp_total (λ (y : Bor (List ℕ)). y.now)
    names k.now sorted) in
    sym (list_any_none (λ name. bytes_eq name.now k.now) names
    (λ j d low. texts_ties (get_or names j d).now k.now
    ∙ not_same _ i j (nat_lt j i) refl (λ before. less j d (omega arith) before)
    (λ from. more j d from low)))

-- The order of names does not matter.
same_pairs : (names sorted : List (Bor (List ℕ))) (which : Kept) (ps : Pairs)
    → IsPermutation names sorted → picked_pairs names which ps ≡ picked_pairs sorted which ps
same_pairs names sorted which no_pairs h = refl
same_pairs names sorted which (pair k t ps) h = rw (
  list_any-IsPermutation (λ name. bytes_eq name.now k) names sorted h,
  same_pairs names sorted which ps h,
) refl

pub same_picked : (names sorted : List (Bor (List ℕ))) (which : Kept) (t : Tree)
    → IsPermutation names sorted → picked names which t ≡ picked sorted which t
same_picked names sorted which (object ps) h = ap object (same_pairs names sorted which ps h)
same_picked names sorted which null h = refl
same_picked names sorted which (boolean b) h = refl
same_picked names sorted which (number x) h = refl
same_picked names sorted which (text s) h = refl
same_picked names sorted which (extension e) h = refl
same_picked names sorted which (array ts) h = refl

-- What is not an object is kept whole.
pub picked_other : (names : List (Bor (List ℕ))) (which : Kept) (t : Tree)
    → (type_of t ≡ CONTAINER_TAG → ⊥) → picked names which t ≡ t
picked_other names which (object ps) h = absurd (h refl)
picked_other names which null h = refl
picked_other names which (boolean b) h = refl
picked_other names which (number x) h = refl
picked_other names which (text s) h = refl
picked_other names which (extension e) h = refl
picked_other names which (array ts) h = refl

pub picked_array : (names : List (Bor (List ℕ))) (which : Kept) (t : Tree) (ts : Trees)
    → t ≡ array ts → picked names which t ≡ t
picked_array names which t ts e = rw e refl

pub picked_object : (names : List (Bor (List ℕ))) (which : Kept) (t : Tree) (ps : Pairs)
    → t ≡ object ps → picked names which t ≡ object (picked_pairs names which ps)
picked_object names which t ps e = rw e refl
