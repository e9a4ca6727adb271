-- The keys of members, one after another, compare as the lists of the members do.
use Rattle.std.proofs.Common.{◌≡◌, ◌++◌, ℕ, zero, suc, List, [], ◌∷◌, refl, ap, ◌∙◌, arith}
use Rattle.std.proofs.Common.{inl, length, subst, if◌then◌else◌}
use Rattle.std.proofs.lemmas.List.Folds.{flat_map-map}
use Rattle.std.specs.Prelude.{Bool, true, false, Option, None, Some, nat_eq}
use Rattle.std.specs.Cmp.Lexicographic.{pointwise, slice_cmp}
use Rattle.std.specs.Ordering.{nat_cmp, ordering_then}
use Rattle.std.specs.declared.cmp.Ordering.TheVariants.{Less, Greater}
use Rattle.jsonb_value.specs.Tree.{Tree, null, boolean, number, text, extension, array, object}
use Rattle.jsonb_value.specs.Tree.{no_trees, tree, Pairs, no_pairs, pair}
use Rattle.jsonb_value.specs.WellFormed.{IsTree, ArePairs}
use Rattle.jsonb.specs.Lookup.{find_pair}
use Rattle.jsonb.specs.Node.{value_of_key}
use Rattle.jsonb_comparable.specs.TreeKey.{tree_key}
use Rattle.jsonb_comparable.proofs.Comparing.{cmp_above, cmp_below}
use Rattle.jsonb_comparable.proofs.KeyLaws.{keys_followed}
use Rattle.kohiblad.specs.KeyParts.{IsKeyOfList, keys_of_members, keys_of_parts}
use Rattle.kohiblad.specs.KeyParts.{members_named, part_cmp, part_key}
use Rattle.kohiblad.specs.Status.{IsLongHandedOver}

-- A member that is there is a tree.
abbrev IsPart : Option Tree → Type 0
IsPart None = Unit {0}
IsPart (Some t) = IsTree t

chosen_part : (b : Bool) (t : Tree) (o : Option Tree) → IsTree t → IsPart o
    → IsPart (if b then Some t else o)
chosen_part true t o h g = h
chosen_part false t o h g = g

pairs_part : (name : List ℕ) (ps : Pairs) → ArePairs ps
    → IsPart (find_pair (pointwise nat_eq name) (length name) ps)
pairs_part name no_pairs h = tt
pairs_part name (pair k t ps) h =
    chosen_part _ t (find_pair (pointwise nat_eq name) (length name) ps) h.1.0
    (pairs_part name ps h.1.1)

tree_part : (name : List ℕ) (t : Tree) → IsTree t → IsPart (value_of_key name t)
tree_part name null h = tt
tree_part name (boolean b) h = tt
tree_part name (number x) h = tt
tree_part name (text s) h = tt
tree_part name (extension e) h = tt
tree_part name (array ts) h = tt
tree_part name (object ps) h = pairs_part name ps h.1

-- An array without items is below one with an item, whatever follows their keys.
end_below : (u : Tree) → IsTree u → (x y : List ℕ)
    → slice_cmp nat_cmp (0 ∷ x) ((tree_key u ++ (0 ∷ [])) ++ y) ≡ Less
unfolding tree_key
end_below u h x y = keys_followed (array no_trees) (array (tree u no_trees)) tt (h, tt) x y

-- So a key begins above zero.
begins_above : (key : List ℕ)
    → ((x y : List ℕ) → slice_cmp nat_cmp (0 ∷ x) ((key ++ (0 ∷ [])) ++ y) ≡ Less)
    → (n : ℕ) × ((rest : List ℕ) × (key ≡ suc n ∷ rest))
begins_above [] below = let never = below [] [] in absurd (cc)
begins_above (suc n ∷ rest) below = (n, (rest, refl))
begins_above (zero ∷ []) below = let never = below (1 ∷ []) [] in absurd (cc)
begins_above (zero ∷ m ∷ rest) below =
    let never = rw (cmp_above (suc m) m (omega arith)) at (below (suc m ∷ []) []) in absurd (cc)

zero_below : (u : Tree) → IsTree u → (x y : List ℕ)
    → slice_cmp nat_cmp (0 ∷ x) (tree_key u ++ y) ≡ Less
zero_below u h x y =
    let (n, (rest, is)) = begins_above (tree_key u) (end_below u h) in
    rw (is, cmp_below 0 (suc n) (omega arith)) refl

above_zero : (t : Tree) → IsTree t → (x y : List ℕ)
    → slice_cmp nat_cmp (tree_key t ++ x) (0 ∷ y) ≡ Greater
above_zero t h x y =
    let (n, (rest, is)) = begins_above (tree_key t) (end_below t h) in
    rw (is, cmp_above (suc n) 0 (omega arith)) refl

part_followed : (o p : Option Tree) → IsPart o → IsPart p → (x y : List ℕ)
    → slice_cmp nat_cmp (part_key o ++ x) (part_key p ++ y)
    ≡ ordering_then (part_cmp o p) (slice_cmp nat_cmp x y)
part_followed None None h g x y = refl
part_followed None (Some u) h g x y = zero_below u g x y
part_followed (Some t) None h g x y = above_zero t h x y
part_followed (Some t) (Some u) h g x y = keys_followed t u h g x y

pub members_order : (t u : Tree) → IsTree t → IsTree u → (names : List (List ℕ))
    → slice_cmp nat_cmp (keys_of_members names t) (keys_of_members names u)
    ≡ slice_cmp part_cmp (members_named names t) (members_named names u)
members_order t u h g [] = refl
members_order t u h g (name ∷ names) =
    part_followed (value_of_key name t) (value_of_key name u) (tree_part name t h)
    (tree_part name u g) (keys_of_members names t) (keys_of_members names u)
    ∙ ap (λ o. ordering_then (part_cmp (value_of_key name t) (value_of_key name u)) o)
    (members_order t u h g names)

-- The keys of the members' values, one after another.
parts_named : (names : List (List ℕ)) (t : Tree) (parts : List (Option Tree))
    → parts ≡ members_named names t → keys_of_parts parts ≡ keys_of_members names t
parts_named names t parts e =
    ap keys_of_parts e ∙ flat_map-map part_key (λ name. value_of_key name t) names

pub handed_over : (names : List (List ℕ)) (t : Tree) (parts : List (Option Tree))
    (before after : List ℕ) (size status : ℕ) → parts ≡ members_named names t
    → IsLongHandedOver (keys_of_parts parts) before after size status
    → IsKeyOfList t names before after size status
handed_over names t parts before after size status e h =
    inl (subst (λ key. IsLongHandedOver key before after size status)
    (parts_named names t parts e) h)
