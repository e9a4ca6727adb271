-- The keys of what a walk over items or members has left.
use Rattle.std.proofs.Common.{◌≡◌, ℕ, suc, ◌+◌, ◌≤◌, List, [], ◌∷◌, ◌++◌, refl, arith, ap}
use Rattle.std.specs.Prelude.{Some}
use Rattle.jsonb_value.specs.Tree.{Tree, null, boolean, number, text, extension, array, object}
use Rattle.jsonb_value.specs.Tree.{Trees, no_trees, tree, Pairs, no_pairs, pair}
use Rattle.jsonb_value.specs.Value.{trees_of}
use Rattle.jsonb_codec.specs.Depth.{size, sizes, pair_sizes}
use Rattle.jsonb.specs.Node.{tree_list, pair_list, pairs_of, items_of, members_of, array_of}
use Rattle.jsonb.specs.Node.{object_of}
use Rattle.jsonb_comparable.specs.Escaped.{escaped}
use Rattle.jsonb_comparable.specs.TreeKey.{tree_key, trees_key, pairs_key}

pub items_key_first : (ts : List Tree) (t : Tree) (others : List Tree) → ts ≡ t ∷ others
    → trees_key (trees_of ts) ≡ tree_key t ++ trees_key (trees_of others)
unfolding tree_key
items_key_first ts t others e = rw e refl

pub items_key_none : (ts : List Tree) → ts ≡ [] → trees_key (trees_of ts) ≡ 0 ∷ []
unfolding tree_key
items_key_none ts e = rw e refl

pub members_key_first : (ps : List (List ℕ × Tree)) (k : List ℕ) (t : Tree)
    (others : List (List ℕ × Tree)) → ps ≡ (k, t) ∷ others
    → pairs_key (pairs_of ps) ≡ escaped k ++ (tree_key t ++ pairs_key (pairs_of others))
unfolding tree_key
members_key_first ps k t others e = rw e refl

pub members_key_none : (ps : List (List ℕ × Tree)) → ps ≡ [] → pairs_key (pairs_of ps) ≡ 0 ∷ []
unfolding tree_key
members_key_none ps e = rw e refl

pub items_fewer : (ts : List Tree) (t : Tree) (others : List Tree) → ts ≡ t ∷ others
    → sizes (trees_of others) ≤ sizes (trees_of ts)
items_fewer ts t others e = rw e (omega arith)

pub members_fewer : (ps : List (List ℕ × Tree)) (k : List ℕ) (t : Tree)
    (others : List (List ℕ × Tree)) → ps ≡ (k, t) ∷ others
    → pair_sizes (pairs_of others) ≤ pair_sizes (pairs_of ps)
members_fewer ps k t others e = rw e (omega arith)

pub items_sizes : (ts : List Tree) (t : Tree) (others : List Tree) → ts ≡ t ∷ others
    → sizes (trees_of ts) ≡ size t + sizes (trees_of others)
items_sizes ts t others e = rw e refl

pub members_sizes : (ps : List (List ℕ × Tree)) (k : List ℕ) (t : Tree)
    (others : List (List ℕ × Tree)) → ps ≡ (k, t) ∷ others
    → pair_sizes (pairs_of ps) ≡ suc (size t + pair_sizes (pairs_of others))
members_sizes ps k t others e = rw e refl

-- what a tree with items or members is
trees_listed : (us : Trees) → trees_of (tree_list us) ≡ us
trees_listed no_trees = refl
trees_listed (tree u us) = ap (λ vs. tree u vs) (trees_listed us)

pairs_listed : (qs : Pairs) → pairs_of (pair_list qs) ≡ qs
pairs_listed no_pairs = refl
pairs_listed (pair k u qs) = ap (λ rs. pair k u rs) (pairs_listed qs)

pub array_items : (t : Tree) (ts : List Tree) → Some ts ≡ items_of t → t ≡ array_of ts
array_items (array us) ts e =
    let same : ts ≡ tree_list us = cc in rw (same, trees_listed us) refl
array_items null ts e = absurd (cc)
array_items (boolean b) ts e = absurd (cc)
array_items (number x) ts e = absurd (cc)
array_items (text s) ts e = absurd (cc)
array_items (extension x) ts e = absurd (cc)
array_items (object qs) ts e = absurd (cc)

pub object_members : (t : Tree) (ps : List (List ℕ × Tree)) → Some ps ≡ members_of t
    → t ≡ object_of ps
object_members (object qs) ps e =
    let same : ps ≡ pair_list qs = cc in rw (same, pairs_listed qs) refl
object_members null ps e = absurd (cc)
object_members (boolean b) ps e = absurd (cc)
object_members (number x) ps e = absurd (cc)
object_members (text s) ps e = absurd (cc)
object_members (extension x) ps e = absurd (cc)
object_members (array us) ps e = absurd (cc)

-- The key of an array or object is a byte and then that of what it holds.
pub key_array : (t : Tree) (ts : List Tree) → t ≡ array_of ts
    → tree_key t ≡ (192 ∷ []) ++ trees_key (trees_of ts)
unfolding tree_key
key_array t ts e = rw e refl

pub key_object : (t : Tree) (ps : List (List ℕ × Tree)) → t ≡ object_of ps
    → tree_key t ≡ (176 ∷ []) ++ pairs_key (pairs_of ps)
unfolding tree_key
key_object t ps e = rw e refl
