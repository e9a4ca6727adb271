-- The child that a step leads to.
use Rattle.std.proofs.Common.{◌≡◌, ℕ, suc, List, [], ◌∷◌, length, refl, sym, ap, ◌∙◌, true, false}
use Rattle.std.proofs.Common.{◌<◌, arith}
use Rattle.std.specs.Prelude.{Option, Some, None, Bool, slice_get}
use Rattle.jsonb_value.specs.Tree.{Tree, array, Trees, count}
use Rattle.jsonb_value.specs.Value.{trees_of}
use Rattle.jsonb.specs.ItemView.{ItemView}
use Rattle.jsonb.specs.Node.{array_of, tree_list, item_at_index}
use Rattle.jsonb.specs.StoredEntries.{IsItemFoundIn}
use Rattle.jsonb_functions.specs.declared.path.Step.{Step}
use Rattle.jsonb_functions.specs.declared.path.Step.TheVariants.{Key, Index, FromEnd, End}
use Rattle.jsonb_functions.specs.Path.{item_place}
use Rattle.jsonb_functions.specs.Found.{child_at, item_there, found_at}
use Rattle.jsonb_functions.specs.FoundEntries.{IsChildIn, IsChildOf, IsFoundFrom, IsItemThere}

count_listed : (ts : List Tree) → count (trees_of ts) ≡ length ts
count_listed [] = refl
count_listed (t ∷ ts) = ap suc (count_listed ts)

pub child_array : (s : Step) (us : Trees)
    → child_at s (array us) ≡ item_there (item_place s (count us)) us
child_array (Key k) us = refl
child_array (Index i) us = refl
child_array (FromEnd i) us = refl
child_array End us = refl

there_is : (m : ℕ) (b : Bool) (place : Option (ℕ × Bool)) (us : Trees) → Some (m, b) ≡ place
    → b ≡ true → slice_get (tree_list us) m ≡ item_there place us
there_is m b place us e there = rw (← e, there) refl

there_is_not : (m : ℕ) (b : Bool) (place : Option (ℕ × Bool)) (us : Trees) → Some (m, b) ≡ place
    → b ≡ false → None ≡ item_there place us
there_is_not m b place us e there = rw (← e, there) refl

pub item_child : (s : Step) (t : Tree) (ts : List Tree) (m : ℕ) (b : Bool) → t ≡ array_of ts
    → Some (m, b) ≡ item_place s (length ts) → b ≡ true → item_at_index m t ≡ child_at s t
item_child s t ts m b is e there =
    let place : Some (m, b) ≡ item_place s (count (trees_of ts)) = rw (count_listed ts) e in
    rw is (there_is m b (item_place s (count (trees_of ts))) (trees_of ts) place there
    ∙ sym (child_array s (trees_of ts)))

pub no_child : (s : Step) (t : Tree) (ts : List Tree) (m : ℕ) (b : Bool) → t ≡ array_of ts
    → Some (m, b) ≡ item_place s (length ts) → b ≡ false → None ≡ child_at s t
no_child s t ts m b is e there =
    let place : Some (m, b) ≡ item_place s (count (trees_of ts)) = rw (count_listed ts) e in
    rw is (there_is_not m b (item_place s (count (trees_of ts))) (trees_of ts) place there
    ∙ sym (child_array s (trees_of ts)))

-- A path with a step leads on from the child.
pub step_found : (path rest : List Step) (s : Step) (t u : Tree) → path ≡ s ∷ rest
    → Some u ≡ child_at s t → found_at path t ≡ found_at rest u
step_found path rest s t u e is = rw (e, ← is) refl

pub step_lost : (path rest : List Step) (s : Step) (t : Tree) → path ≡ s ∷ rest
    → None ≡ child_at s t → found_at path t ≡ None
step_lost path rest s t e is = rw (e, ← is) refl

pub found_here : (path : List Step) (t : Tree) → length path < 1 → found_at path t ≡ Some t
found_here [] t h = refl
found_here (s ∷ path) t h = absurd (omega (arith, h))

-- The item of the entry of that child.
child_in_array : (s : Step) (b : List ℕ) (ts : Trees) (found : Option ItemView)
    → IsItemThere (item_place s (count ts)) b (array ts) found → IsChildIn s b (array ts) found
child_in_array (Key k) b ts found h = h
child_in_array (Index i) b ts found h = h
child_in_array (FromEnd i) b ts found h = h
child_in_array End b ts found h = h

module _ (s : Step) (b : List ℕ) (t : Tree) (ts : List Tree) (is : t ≡ array_of ts) where
  counted : (o : Option (ℕ × Bool)) → o ≡ item_place s (length ts)
      → o ≡ item_place s (count (trees_of ts))
  counted o e = rw (count_listed ts) e

  pub item_entry : (m : ℕ) (there : Bool) (found : Option ItemView)
      → Some (m, there) ≡ item_place s (length ts) → there ≡ true → IsItemFoundIn m b t found
      → IsChildIn s b t found
  item_entry m there found e held h =
      let place = counted (Some (m, there)) e in
      let at = rw is at h in
      rw is (child_in_array s b (trees_of ts) found (rw (← place, held) at))

  pub no_item_entry : (m : ℕ) (there : Bool)
      → Some (m, there) ≡ item_place s (length ts) → there ≡ false → IsChildIn s b t None
  no_item_entry m there e gone =
      let place = counted (Some (m, there)) e in
      rw is (child_in_array s b (trees_of ts) None (rw (← place, gone) refl))

-- The item at the end of a path, whose first step leads to an item or nowhere.
pub found_on : (path rest : List Step) (s : Step) (x y : ItemView) (found : Option ItemView)
    → path ≡ s ∷ rest → IsChildOf s x (Some y) → IsFoundFrom rest y found
    → IsFoundFrom path x found
found_on path rest s x y found e is later = rw e (Some y, (is, later))

pub found_nowhere : (path rest : List Step) (s : Step) (x : ItemView) → path ≡ s ∷ rest
    → IsChildOf s x None → IsFoundFrom path x None
found_nowhere path rest s x e is = rw e (None, (is, refl))

pub found_item : (path : List Step) (x : ItemView) → length path < 1
    → IsFoundFrom path x (Some x)
found_item [] x h = refl
found_item (s ∷ path) x h = absurd (omega (arith, h))
