-- What a tree contains has no index key that the tree has not.
use Rattle.std.proofs.Common.{◌≡◌, ℕ, List, [], ◌∷◌, ◌++◌, refl, inl, inr}
use Rattle.std.proofs.lemmas.Bool.{eqb-true}
use Rattle.std.specs.Prelude.{Bool, true, false, eqb, length, ◌&&◌, ◌||◌, ◌⊎◌, ◌==◌, if◌then◌else◌}
use Rattle.std.specs.Prelude.{Option, Some, None, nat_eq}
use Rattle.std.specs.declared.cmp.Ordering.{Ordering}
use Rattle.std.specs.declared.cmp.Ordering.TheVariants.{Less, Equal, Greater}
use Rattle.std.specs.Ordering.{is_eq}
use Rattle.std.specs.Cmp.Lexicographic.{pointwise}
use Rattle.jsonb_value.specs.Tree.{Tree, null, boolean, number, text, extension, array, object}
use Rattle.jsonb_value.specs.Tree.{Trees, no_trees, tree, Pairs, no_pairs, pair}
use Rattle.jsonb_value.specs.TreeOrder.{tree_cmp}
use Rattle.jsonb_value.specs.WellFormed.{IsTree, AreTrees, ArePairs}
use Rattle.jsonb.specs.Node.{value_of_key}
use Rattle.jsonb_functions.specs.Contains.{contained, items_contained, members_contained}
use Rattle.jsonb_functions.specs.Contains.{contains_whole, some_tree, some_value}
use Rattle.jsonb_functions.specs.IndexKeys.{IsIn, AreAllIn, index_keys, items_keys, members_keys}

pub both : (a b : Bool) → (a && b) ≡ true → (a ≡ true) × (b ≡ true)
both true true h = (refl, refl)
both true false h = absurd (cc)
both false b h = absurd (cc)

pub one_is : {P Q : Type 0} (a b : Bool) → (a || b) ≡ true → (a ≡ true → P) → (b ≡ true → Q) → P ⊎ Q
one_is true b h f g = inl (f refl)
one_is false b h f g = inr (g h)

pub are_equal : (o : Ordering) → is_eq o ≡ true → o ≡ Equal
are_equal Equal h = refl
are_equal Less h = absurd (cc)
are_equal Greater h = absurd (cc)

in_first : (x : List ℕ) (xs ys : List (List ℕ)) → IsIn x xs → IsIn x (xs ++ ys)
in_first x [] ys h = absurd h
in_first x (y ∷ xs) ys (inl h) = inl h
in_first x (y ∷ xs) ys (inr h) = inr (in_first x xs ys h)

in_second : (x : List ℕ) (xs ys : List (List ℕ)) → IsIn x ys → IsIn x (xs ++ ys)
in_second x [] ys h = h
in_second x (y ∷ xs) ys h = inr (in_second x xs ys h)

both_in : (xs ys zs : List (List ℕ)) → AreAllIn xs zs → AreAllIn ys zs → AreAllIn (xs ++ ys) zs
both_in [] ys zs f g x h = g x h
both_in (y ∷ xs) ys zs f g x (inl h) = f x (inl h)
both_in (y ∷ xs) ys zs f g x (inr h) = both_in xs ys zs (λ z i. f z (inr i)) g x h

same_keys : (x y : ℕ) (k j : List ℕ) → (eqb x y ≡ true) × (pointwise nat_eq k j ≡ true)
    → (pointwise nat_eq k j ≡ true → k ≡ j) → x ∷ k ≡ y ∷ j
same_keys x y k j h later =
    let first = eqb-true x y h.0 in let others = later h.1 in rw (first, others) refl

-- The bytes of equal keys are the same.
pub same_key : (k j : List ℕ) → pointwise nat_eq k j ≡ true → k ≡ j
same_key [] [] h = refl
same_key [] (y ∷ j) h = absurd (cc)
same_key (x ∷ k) [] h = absurd (cc)
same_key (x ∷ k) (y ∷ j) h =
    same_keys x y k j (both (eqb x y) (pointwise nat_eq k j) h) (same_key k j)

-- What a choice that gives a value was.
chosen : (b : Bool) (t v : Tree) (rest : Option Tree)
    → (if b then Some t else rest) ≡ Some v
    → ((b ≡ true) × (t ≡ v)) ⊎ ((b ≡ false) × (rest ≡ Some v))
chosen true t v rest e = inl (refl, cc)
chosen false t v rest e = inr (refl, e)

module _ (step : List ℕ → List ℕ) (scalar_key : Tree → List ℕ)
    (same : (t u : Tree) → IsTree t → IsTree u → tree_cmp t u ≡ Equal
    → scalar_key t ≡ scalar_key u) where
  -- Equal scalars at one path have one key.
  one_key : (path : List ℕ) (t u : Tree) → IsTree t → IsTree u → is_eq (tree_cmp t u) ≡ true
      → AreAllIn ((path ++ (0 ∷ scalar_key u)) ∷ []) ((path ++ (0 ∷ scalar_key t)) ∷ [])
  one_key path t u it iu h x (inl e) =
      inl (rw (same t u it iu (are_equal (tree_cmp t u) h)) e)
  one_key path t u it iu h x (inr i) = absurd i

  some_keys_at : (path : List ℕ) (keys : List (List ℕ)) (t : Tree) (ts : Trees)
      → AreAllIn keys (index_keys step scalar_key path t)
      ⊎ AreAllIn keys (items_keys step scalar_key path ts)
      → AreAllIn keys (items_keys step scalar_key path (tree t ts))
  some_keys_at path keys t ts (inl f) x i =
      in_first x (index_keys step scalar_key path t) (items_keys step scalar_key path ts) (f x i)
  some_keys_at path keys t ts (inr f) x i =
      in_second x (index_keys step scalar_key path t) (items_keys step scalar_key path ts) (f x i)

  -- The keys of a value of an object are among the object's.
  value_keys_at : (path k j : List ℕ) (t v : Tree) (ps : Pairs)
      → (((length j == length k) && pointwise nat_eq k j) ≡ true) × (t ≡ v)
      ⊎ ((((length j == length k) && pointwise nat_eq k j) ≡ false)
      × (value_of_key k (object ps) ≡ Some v))
      → (value_of_key k (object ps) ≡ Some v
      → AreAllIn (index_keys step scalar_key (path ++ step k) v)
      (members_keys step scalar_key path ps))
      → AreAllIn (index_keys step scalar_key (path ++ step k) v)
      (members_keys step scalar_key path (pair j t ps))
  value_keys_at path k j t v ps (inl found) later x h =
      let key = same_key k j (both _ _ found.0).1 in
      in_first x (index_keys step scalar_key (path ++ step j) t)
      (members_keys step scalar_key path ps) (rw (← key, found.1) h)
  value_keys_at path k j t v ps (inr found) later x h =
      in_second x (index_keys step scalar_key (path ++ step j) t)
      (members_keys step scalar_key path ps) (later found.1 x h)

  value_keys : (path k : List ℕ) (ps : Pairs) (v : Tree) → value_of_key k (object ps) ≡ Some v
      → AreAllIn (index_keys step scalar_key (path ++ step k) v)
      (members_keys step scalar_key path ps)
  value_keys path k no_pairs v e = absurd (cc)
  value_keys path k (pair j t ps) v e =
      value_keys_at path k j t v ps (chosen _ t v (value_of_key k (object ps)) e)
      (value_keys path k ps v)

  -- What is in the keys of each tree that passes a test is in those of an array with such an item.
  some_keys : (path : List ℕ) (keys : List (List ℕ)) (test : Tree → Bool) (ts : Trees)
      → ((t : Tree) → IsTree t → test t ≡ true → AreAllIn keys (index_keys step scalar_key path t))
      → AreTrees ts → some_tree test ts ≡ true → AreAllIn keys (items_keys step scalar_key path ts)
  some_keys path keys test no_trees each its h = absurd (cc)
  some_keys path keys test (tree t ts) each its h =
      some_keys_at path keys t ts
      (one_is (test t) (some_tree test ts) h (each t its.0)
      (some_keys path keys test ts each its.1))

  -- The value of a key is a tree as the object is.
  value_tree_at : (k j : List ℕ) (t v : Tree) (ps : Pairs) → IsTree t
      → (((length j == length k) && pointwise nat_eq k j) ≡ true) × (t ≡ v)
      ⊎ ((((length j == length k) && pointwise nat_eq k j) ≡ false)
      × (value_of_key k (object ps) ≡ Some v))
      → (value_of_key k (object ps) ≡ Some v → IsTree v) → IsTree v
  value_tree_at k j t v ps it (inl found) later = rw (← found.1) it
  value_tree_at k j t v ps it (inr found) later = later found.1

  value_tree : (k : List ℕ) (ps : Pairs) (v : Tree) → ArePairs ps
      → value_of_key k (object ps) ≡ Some v → IsTree v
  value_tree k no_pairs v ips e = absurd (cc)
  value_tree k (pair j t ps) v ips e =
      value_tree_at k j t v ps ips.1.0 (chosen _ t v (value_of_key k (object ps)) e)
      (value_tree k ps v ips.1.1)

  some_value_keys : (path k : List ℕ) (keys : List (List ℕ)) (test : Tree → Bool) (ps : Pairs)
      → ((t : Tree) → IsTree t → test t ≡ true
      → AreAllIn keys (index_keys step scalar_key (path ++ step k) t))
      → ArePairs ps → (found : Option Tree) → value_of_key k (object ps) ≡ found
      → some_value test found ≡ true → AreAllIn keys (members_keys step scalar_key path ps)
  some_value_keys path k keys test ps each ips None e h x i = absurd (cc)
  some_value_keys path k keys test ps each ips (Some v) e h x i =
      value_keys path k ps v e x (each v (value_tree k ps v ips e) h x i)

  mutual
    pub contained_keys : (path : List ℕ) (u t : Tree) → IsTree u → IsTree t → contained u t ≡ true
        → AreAllIn (index_keys step scalar_key path u) (index_keys step scalar_key path t)
    contained_keys path (array us) (array ts) iu it h = items_contained_keys path us ts iu it h
    contained_keys path (object qs) (object ps) iu it h =
        members_contained_keys path qs ps iu.1 it.1 h
    contained_keys path null null iu it h = one_key path null null it iu h
    contained_keys path (boolean b) (boolean a) iu it h =
        one_key path (boolean a) (boolean b) it iu h
    contained_keys path (number b) (number a) iu it h =
        one_key path (number a) (number b) it iu h
    contained_keys path (text b) (text a) iu it h = one_key path (text a) (text b) it iu h
    contained_keys path (extension b) (extension a) iu it h =
        one_key path (extension a) (extension b) it iu h
    contained_keys path u t iu it h = absurd (cc)

    items_contained_keys : (path : List ℕ) (us ts : Trees) → AreTrees us → AreTrees ts
        → items_contained us ts ≡ true
        → AreAllIn (items_keys step scalar_key path us) (items_keys step scalar_key path ts)
    items_contained_keys path no_trees ts ius its h x i = absurd i
    items_contained_keys path (tree u us) ts ius its h x i =
        let (first, others) =
        both (some_tree (λ t. contained u t) ts) (items_contained us ts) h in
        both_in (index_keys step scalar_key path u) (items_keys step scalar_key path us)
        (items_keys step scalar_key path ts)
        (some_keys path (index_keys step scalar_key path u) (λ t. contained u t) ts
        (λ t it g. contained_keys path u t ius.0 it g) its first)
        (items_contained_keys path us ts ius.1 its others) x i

    members_contained_keys : (path : List ℕ) (qs ps : Pairs) → ArePairs qs → ArePairs ps
        → members_contained qs (object ps) ≡ true
        → AreAllIn (members_keys step scalar_key path qs) (members_keys step scalar_key path ps)
    members_contained_keys path no_pairs ps iqs ips h x i = absurd i
    members_contained_keys path (pair k u qs) ps iqs ips h x i =
        let (first, others) = both (some_value (λ v. contained u v) (value_of_key k (object ps)))
        (members_contained qs (object ps)) h in
        both_in (index_keys step scalar_key (path ++ step k) u)
        (members_keys step scalar_key path qs) (members_keys step scalar_key path ps)
        (some_value_keys path k (index_keys step scalar_key (path ++ step k) u)
        (λ v. contained u v) ps (λ v iv g. contained_keys (path ++ step k) u v iqs.1.0 iv g) ips
        (value_of_key k (object ps)) refl first)
        (members_contained_keys path qs ps iqs.1.1 ips others) x i

  -- The same of whole documents.
  pub whole_keys : (t u : Tree) → IsTree t → IsTree u → contains_whole t u ≡ true
      → AreAllIn (index_keys step scalar_key [] u) (index_keys step scalar_key [] t)
  whole_keys (array ts) (array us) it iu h = contained_keys [] (array us) (array ts) iu it h
  whole_keys (array ts) (object qs) it iu h = absurd (cc)
  whole_keys (array ts) u its iu h =
      some_keys [] (index_keys step scalar_key [] u) (λ t. contained u t) ts
      (λ t it g. contained_keys [] u t iu it g) its h
  whole_keys t u it iu h = contained_keys [] u t iu it h
