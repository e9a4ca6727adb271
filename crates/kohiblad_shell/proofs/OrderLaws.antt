-- Lists that are sorted stably, by inserting one element after the other.
use Rattle.std.proofs.Common.{◌≡◌, Bool, true, false, cond, List, [], ◌∷◌, ◌++◌, refl, sym, ap, ◌∙◌}
use Rattle.std.proofs.Common.{subst, not, ◌&&◌, reverse, Option, None, Some, IsPermutation, append-nil}
use Rattle.std.proofs.Common.{ℕ, zero, suc, ◌+◌, ◌<◌, length, get_or, arith, map, ap₂, append_assoc}
use mathlib.Core.List.{reverse-cons}
use Rattle.std.proofs.lemmas.List.{reverse-append}
use Rattle.std.proofs.lemmas.List.Elements.{filter-append, filter_agree}
use Rattle.std.proofs.lemmas.List.Sorted.{IsPermutation-cons, IsPermutation-middle}
use Rattle.std.proofs.lemmas.List.Sorted.{IsPermutation-refl, IsPermutation-sym}
use Rattle.std.proofs.lemmas.List.Sorted.{IsPermutation-trans, IsStrictWeakOrder-flip}
use Rattle.std.specs.Cmp.{IsStrictWeakOrder}
use Rattle.std.specs.List.{filter}
use Rattle.std.specs.List.Sorted.{IsSortedBy, ties}

no_both : (t : Bool) → t ≡ true → t ≡ false → ⊥
no_both true p q = absurd cc
no_both false p q = absurd cc

-- the first element alone
abbrev pub first : {X : Type 0} → List X → List X
first [] = []
first (x ∷ xs) = x ∷ []

pub first-first : {X : Type 0} (xs ys : List X) → first (first xs ++ ys) ≡ first (xs ++ ys)
first-first [] ys = refl
first-first (x ∷ xs) ys = refl

pub first-second : {X : Type 0} (xs ys : List X) → first (xs ++ first ys) ≡ first (xs ++ ys)
first-second [] [] = refl
first-second [] (y ∷ ys) = refl
first-second (x ∷ xs) ys = refl

pub reverse-first : {X : Type 0} (xs : List X) → reverse (first xs) ≡ first xs
reverse-first [] = refl
reverse-first (x ∷ xs) = refl

pub filter-reverse : {X : Type 0} (p : X → Bool) (xs : List X)
    → filter p (reverse xs) ≡ reverse (filter p xs)
filter-reverse p [] = refl
filter-reverse p (x ∷ xs) =
    ap (filter p) (reverse-cons x xs) ∙ filter-append p (reverse xs) (x ∷ [])
    ∙ ap (λ l. l ++ filter p (x ∷ [])) (filter-reverse p xs) ∙ last (p x)
  where
    last : (t : Bool) → reverse (filter p xs) ++ cond t (x ∷ []) []
        ≡ reverse (cond t (x ∷ filter p xs) (filter p xs))
    last true = sym (reverse-cons x (filter p xs))
    last false = append-nil (reverse (filter p xs))

module _ {X : Type 0} (lt : X → X → Bool) where
  -- an element goes before the first one that is not less
  abbrev pub insert : X → List X → List X
  insert x [] = x ∷ []
  insert x (y ∷ ys) = cond (lt y x) (y ∷ insert x ys) (x ∷ (y ∷ ys))

  abbrev pub isort : List X → List X
  isort [] = []
  isort (x ∷ xs) = insert x (isort xs)

  -- none of these is less than an element
  abbrev pub Above : X → List X → Type 0
  Above x [] = Unit {0}
  Above x (y ∷ ys) = (lt y x ≡ false) × Above x ys

  -- an element is less than each of these
  abbrev pub Below : X → List X → Type 0
  Below x [] = Unit {0}
  Below x (y ∷ ys) = (lt x y ≡ true) × Below x ys

  abbrev pub Up : List X → Type 0
  Up [] = Unit {0}
  Up (x ∷ xs) = Above x xs × Up xs

  abbrev pub tied : Option X → X → Bool
  tied None x = false
  tied (Some l) x = ties lt l x

  -- the elements without those that tie with the one before
  abbrev pub singles : Option X → List X → List X
  singles last [] = []
  singles last (x ∷ xs) = cond (tied last x) (singles (Some x) xs) (x ∷ singles (Some x) xs)

  above_insert : (a x : X) (ys : List X) → lt x a ≡ false → Above a ys → Above a (insert x ys)
  above_insert a x [] p q = (p, tt)
  above_insert a x (y ∷ ys) p q = go (above_insert a x ys p q.1) (lt y x)
    where
      go : Above a (insert x ys) → (t : Bool)
          → Above a (cond t (y ∷ insert x ys) (x ∷ (y ∷ ys)))
      go rest true = (q.0, rest)
      go rest false = (p, q)

  pub above_isort : (a : X) (ys : List X) → Above a ys → Above a (isort ys)
  above_isort a [] q = tt
  above_isort a (y ∷ ys) q = above_insert a y (isort ys) q.0 (above_isort a ys q.1)

  insert_front : (x : X) (ys : List X) → Above x ys → insert x ys ≡ x ∷ ys
  insert_front x [] q = refl
  insert_front x (y ∷ ys) q =
      ap (λ t. cond t (y ∷ insert x ys) (x ∷ (y ∷ ys))) q.0

  -- the least element, and the first of those that tie with it, comes first
  pub isort_first : (xs : List X) (h : X) (ys : List X) → Below h xs → Above h ys
      → isort (xs ++ h ∷ ys) ≡ h ∷ isort (xs ++ ys)
  isort_first [] h ys b q = insert_front h (isort ys) (above_isort h ys q)
  isort_first (x ∷ xs) h ys b q =
      ap (insert x) (isort_first xs h ys b.1 q)
      ∙ ap (λ t. cond t (h ∷ insert x (isort (xs ++ ys))) (x ∷ (h ∷ isort (xs ++ ys)))) b.0

  perm_insert : (x : X) (ys : List X) → IsPermutation (x ∷ ys) (insert x ys)
  perm_insert x [] = IsPermutation-refl (x ∷ [])
  perm_insert x (y ∷ ys) = go (perm_insert x ys) (lt y x)
    where
      go : IsPermutation (x ∷ ys) (insert x ys) → (t : Bool)
          → IsPermutation (x ∷ (y ∷ ys)) (cond t (y ∷ insert x ys) (x ∷ (y ∷ ys)))
      go rest true =
          IsPermutation-trans (x ∷ (y ∷ ys)) (y ∷ (x ∷ ys)) (y ∷ insert x ys)
          (IsPermutation-sym (y ∷ (x ∷ ys)) (x ∷ (y ∷ ys)) (IsPermutation-middle (y ∷ []) x ys))
          (IsPermutation-cons y (x ∷ ys) (insert x ys) rest)
      go rest false = IsPermutation-refl (x ∷ (y ∷ ys))

  pub perm_isort : (xs : List X) → IsPermutation xs (isort xs)
  perm_isort [] = IsPermutation-refl []
  perm_isort (x ∷ xs) =
      IsPermutation-trans (x ∷ xs) (x ∷ isort xs) (insert x (isort xs))
      (IsPermutation-cons x xs (isort xs) (perm_isort xs)) (perm_insert x (isort xs))

  pub above_append : (a : X) (xs ys : List X) → Above a xs → Above a ys → Above a (xs ++ ys)
  above_append a [] ys p q = q
  above_append a (x ∷ xs) ys p q = (p.0, above_append a xs ys p.1 q)

  above_reverse : (a : X) (xs : List X) → Above a xs → Above a (reverse xs)
  above_reverse a [] q = tt
  above_reverse a (x ∷ xs) q =
      subst (Above a) (sym (reverse-cons x xs))
      (above_append a (reverse xs) (x ∷ []) (above_reverse a xs q.1) (q.0, tt))

  above_singles : (a : X) (last : Option X) (xs : List X) → Above a xs → Above a (singles last xs)
  above_singles a last [] q = tt
  above_singles a last (x ∷ xs) q = go (above_singles a (Some x) xs q.1) (tied last x)
    where
      go : Above a (singles (Some x) xs) → (t : Bool)
          → Above a (cond t (singles (Some x) xs) (x ∷ singles (Some x) xs))
      go rest true = rest
      go rest false = (q.0, rest)

  pub up_singles : (last : Option X) (xs : List X) → Up xs → Up (singles last xs)
  up_singles last [] q = tt
  up_singles last (x ∷ xs) q = go (up_singles (Some x) xs q.1) (tied last x)
    where
      go : Up (singles (Some x) xs) → (t : Bool)
          → Up (cond t (singles (Some x) xs) (x ∷ singles (Some x) xs))
      go rest true = rest
      go rest false = (above_singles x (Some x) xs q.0, rest)

module _ {X : Type 0} (lt : X → X → Bool) where
  up_push : (xs : List X) (x : X) → Up (λ a b. lt b a) xs → Above lt x xs
      → Up (λ a b. lt b a) (xs ++ x ∷ [])
  up_push [] x up q = (tt, tt)
  up_push (y ∷ xs) x up q = (into y xs up.0 q.0, up_push xs x up.1 q.1)
    where
      into : (a : X) (ys : List X) → Above (λ b c. lt c b) a ys → lt a x ≡ false
          → Above (λ b c. lt c b) a (ys ++ x ∷ [])
      into a [] p q = (q, tt)
      into a (b ∷ ys) p q = (p.0, into a ys p.1 q)

  -- the other way round
  pub up_reverse : (xs : List X) → Up lt xs → Up (λ a b. lt b a) (reverse xs)
  up_reverse [] up = tt
  up_reverse (x ∷ xs) up =
      subst (Up (λ a b. lt b a)) (sym (reverse-cons x xs))
      (up_push (reverse xs) x (up_reverse xs up.1) (above_reverse lt x xs up.0))

module _ {X : Type 0} (lt : X → X → Bool) (o : IsStrictWeakOrder lt) where
  pub above_trans : (a x : X) (ys : List X) → lt x a ≡ false → Above lt x ys → Above lt a ys
  above_trans a x [] p q = tt
  above_trans a x (y ∷ ys) p q = (o.chain y x a q.0 p, above_trans a x ys p q.1)

  up_insert : (x : X) (ys : List X) → Up lt ys → Up lt (insert lt x ys)
  up_insert x [] up = (tt, tt)
  up_insert x (y ∷ ys) up = go (up_insert x ys up.1) (lt y x) refl
    where
      go : Up lt (insert lt x ys) → (t : Bool) → lt y x ≡ t
          → Up lt (cond t (y ∷ insert lt x ys) (x ∷ (y ∷ ys)))
      go rest true is = (above_insert lt y x ys (o.one_way y x is) up.0, rest)
      go rest false is = ((is, above_trans x y ys is up.0), up)

  pub up_isort : (xs : List X) → Up lt (isort lt xs)
  up_isort [] = tt
  up_isort (x ∷ xs) = up_insert x (isort lt xs) (up_isort xs)

  -- what is less than one of them, which is least, is less than all
  pub below_from : (h x : X) (xs : List X) → lt h x ≡ true → Above lt x xs → Below lt h (x ∷ xs)
  below_from h x xs less above = (less, all xs above)
    where
      one : (y : X) → lt y x ≡ false → (t : Bool) → lt h y ≡ t → t ≡ true
      one y ge true is = refl
      one y ge false is = absurd (no_both (lt h x) less (o.chain h y x is ge))

      all : (ys : List X) → Above lt x ys → Below lt h ys
      all [] q = tt
      all (y ∷ ys) q = (one y q.0 (lt h y) refl, all ys q.1)

  -- two that tie with one tie
  tie_both : (a x y : X) → ties lt a x ≡ true → ties lt a y ≡ true → lt y x ≡ false
  tie_both a x y p q = go (lt a x) (lt x a) (lt a y) (lt y a) refl refl refl refl p q
    where
      go : (t u v w : Bool) → lt a x ≡ t → lt x a ≡ u → lt a y ≡ v → lt y a ≡ w
          → not t && not u ≡ true → not v && not w ≡ true → lt y x ≡ false
      go false u v false is is' at at' p q = o.chain y a x at' is
      go true u v w is is' at at' p q = absurd cc
      go false u true true is is' at at' p q = absurd cc
      go false u false true is is' at at' p q = absurd cc

  itself : (x : X) → ties lt x x ≡ true
  itself x = go (lt x x) refl
    where
      go : (t : Bool) → lt x x ≡ t → not t && not t ≡ true
      go true is = absurd (no_both (lt x x) is (o.one_way x x is))
      go false is = refl

  filter_insert : (a x : X) (ys : List X)
      → filter (ties lt a) (insert lt x ys) ≡ filter (ties lt a) (x ∷ ys)
  filter_insert a x [] = refl
  filter_insert a x (y ∷ ys) = go (filter_insert a x ys) (lt y x) refl
    where
      f : List X
      f = filter (ties lt a) ys

      swap : (t u : Bool) → (t ≡ true → u ≡ true → ⊥)
          → cond u (y ∷ cond t (x ∷ f) f) (cond t (x ∷ f) f)
          ≡ cond t (x ∷ cond u (y ∷ f) f) (cond u (y ∷ f) f)
      swap true true both = absurd (both refl refl)
      swap true false both = refl
      swap false true both = refl
      swap false false both = refl

      never : lt y x ≡ true → ties lt a x ≡ true → ties lt a y ≡ true → ⊥
      never is p q = no_both (lt y x) is (tie_both a x y p q)

      go : filter (ties lt a) (insert lt x ys) ≡ filter (ties lt a) (x ∷ ys)
          → (t : Bool) → lt y x ≡ t
          → filter (ties lt a) (cond t (y ∷ insert lt x ys) (x ∷ (y ∷ ys)))
          ≡ filter (ties lt a) (x ∷ (y ∷ ys))
      go rest true is =
          ap (λ l. cond (ties lt a y) (y ∷ l) l) rest
          ∙ swap (ties lt a x) (ties lt a y) (never is)
      go rest false is = refl

  -- those that tie keep their order
  pub filter_isort : (a : X) (xs : List X)
      → filter (ties lt a) (isort lt xs) ≡ filter (ties lt a) xs
  filter_isort a [] = refl
  filter_isort a (x ∷ xs) =
      filter_insert a x (isort lt xs)
      ∙ ap (λ l. cond (ties lt a x) (x ∷ l) l) (filter_isort a xs)

  -- ---- a sorted list is given by its elements that tie

  abbrev pub group : X → List X → List X
  group a xs = filter (ties lt a) xs

  apart : (a y : X) → lt a y ≡ true → ties lt a y ≡ false
  apart a y less = ap (λ t. not t && not (lt y a)) less

  ungrouped : (a : X) (xs : List X) → Below lt a xs → group a xs ≡ []
  ungrouped a [] q = refl
  ungrouped a (x ∷ xs) q =
      ap (λ t. cond t (x ∷ group a xs) (group a xs)) (apart a x q.0) ∙ ungrouped a xs q.1

  grouped : (x : X) (xs : List X) → group x (x ∷ xs) ≡ x ∷ group x xs
  grouped x xs = ap (λ t. cond t (x ∷ group x xs) (group x xs)) (itself x)

  -- the first of a sorted list is not above the first of another with the same elements
  not_above : (x y : X) (xs ys : List X) → Up lt (x ∷ xs)
      → group y (x ∷ xs) ≡ group y (y ∷ ys) → lt y x ≡ false
  not_above x y xs ys up same = go (lt y x) refl
    where
      go : (t : Bool) → lt y x ≡ t → t ≡ false
      go true is =
          absurd (none (sym (ungrouped y (x ∷ xs) (below_from y x xs is up.0)) ∙ same ∙ grouped y ys))
        where
          none : [] ≡ y ∷ group y ys → ⊥
          none e = absurd cc
      go false is = refl

  tie_of : (x y : X) → lt x y ≡ false → lt y x ≡ false → ties lt x y ≡ true
  tie_of x y p q = ap (λ t. not t && not (lt y x)) p ∙ ap (λ t. not t) q

  pub same_sorted : (xs ys : List X) → Up lt xs → Up lt ys
      → ((a : X) → group a xs ≡ group a ys) → xs ≡ ys
  same_sorted [] [] up up' same = refl
  same_sorted [] (y ∷ ys) up up' same = absurd (none (same y ∙ grouped y ys))
    where
      none : [] ≡ y ∷ group y ys → ⊥
      none e = absurd cc
  same_sorted (x ∷ xs) [] up up' same = absurd (none (sym (grouped x xs) ∙ same x))
    where
      none : x ∷ group x xs ≡ [] → ⊥
      none e = absurd cc
  same_sorted (x ∷ xs) (y ∷ ys) up up' same =
      let tie : ties lt x y ≡ true = tie_of x y
      (not_above y x ys xs up' (sym (same x))) (not_above x y xs ys up (same y)) in
      let heads : x ∷ group x xs ≡ y ∷ group x ys =
      sym (grouped x xs) ∙ same x ∙ ap (λ t. cond t (y ∷ group x ys) (group x ys)) tie in
      let one : x ≡ y = head heads in
      let rest : (a : X) → group a xs ≡ group a ys =
      λ a. tails a (subst (λ z. group a (x ∷ xs) ≡ group a (z ∷ ys)) (sym one) (same a)) in
      ap (λ z. z ∷ xs) one ∙ ap (λ l. y ∷ l) (same_sorted xs ys up.1 up'.1 rest)
    where
      head : {a b : X} {l m : List X} → a ∷ l ≡ b ∷ m → a ≡ b
      head e = cc

      tail : {a b : X} {l m : List X} → a ∷ l ≡ b ∷ m → l ≡ m
      tail e = cc

      drop : (t : Bool) (l m : List X) → cond t (x ∷ l) l ≡ cond t (x ∷ m) m → l ≡ m
      drop true l m e = tail e
      drop false l m e = e

      tails : (a : X) → group a (x ∷ xs) ≡ group a (x ∷ ys) → group a xs ≡ group a ys
      tails a e = drop (ties lt a x) (group a xs) (group a ys) e

  -- ---- the first of those that tie

  untie : (x y : X) → ties lt x y ≡ true → (lt x y ≡ false) × (lt y x ≡ false)
  untie x y tie = go (lt x y) (lt y x) tie
    where
      go : (t u : Bool) → not t && not u ≡ true → (t ≡ false) × (u ≡ false)
      go true u e = absurd cc
      go false true e = absurd cc
      go false false e = (refl, refl)

  tie_trans : (x y z : X) → ties lt x y ≡ true → ties lt y z ≡ true → ties lt x z ≡ true
  tie_trans x y z p q =
      let a = untie x y p in
      let b = untie y z q in
      tie_of x z (o.chain x y z a.0 b.0) (o.chain z y x b.1 a.1)

  tie_sym : (x y : X) → ties lt x y ≡ true → ties lt y x ≡ true
  tie_sym x y p = let a = untie x y p in tie_of y x a.1 a.0

  both_ways : (s t : Bool) → (s ≡ true → t ≡ true) → (t ≡ true → s ≡ true) → s ≡ t
  both_ways true t f g = sym (f refl)
  both_ways false true f g = g refl
  both_ways false false f g = refl

  switch : (a x y : X) → ties lt x y ≡ true → ties lt a x ≡ ties lt a y
  switch a x y tie =
      both_ways (ties lt a x) (ties lt a y) (λ p. tie_trans a x y p tie)
      (λ p. tie_trans a y x p (tie_sym x y tie))

  pub switch_left : (a l y : X) → ties lt a l ≡ true → ties lt a y ≡ ties lt l y
  switch_left a l y tie =
      both_ways (ties lt a y) (ties lt l y) (λ p. tie_trans l a y (tie_sym a l tie) p)
      (λ p. tie_trans a l y tie p)

  less_of : (l x : X) → lt x l ≡ false → ties lt l x ≡ false → lt l x ≡ true
  less_of l x ge apart' = go (lt l x) refl
    where
      go : (t : Bool) → lt l x ≡ t → t ≡ true
      go true is = refl
      go false is = absurd (no_both (ties lt l x) (tie_of l x is ge) apart')

  pub group_singles : (a l : X) (xs : List X) → Up lt (l ∷ xs)
      → group a (singles lt (Some l) xs) ≡ cond (ties lt a l) [] (first (group a xs))
  group_singles a l [] up = go (ties lt a l)
    where
      go : (t : Bool) → filter (ties lt a) [] ≡ cond {A = List X} t [] []
      go true = refl
      go false = refl
  group_singles a l (x ∷ xs) up = go (group_singles a x xs up.1) (ties lt l x) refl
    where
      u : Bool
      u = ties lt a x

      g : List X
      g = group a xs

      pick : (t : Bool) → cond t [] (first g) ≡ cond t [] (first (cond t (x ∷ g) g))
      pick true = refl
      pick false = refl

      none : lt l x ≡ true → ties lt a l ≡ true → g ≡ []
      none less tie =
          filter_agree (ties lt a) (ties lt l) (λ y. switch_left a l y tie) xs
          ∙ ungrouped l xs (below_from l x xs less up.1.0).1

      cases : (t v : Bool) → ties lt a x ≡ t → ties lt a l ≡ v → lt l x ≡ true
          → cond t (x ∷ cond t [] (first g)) (cond t [] (first g))
          ≡ cond v [] (first (cond t (x ∷ g) g))
      cases true true is is' less = absurd (no_both (lt l x) less (tie_both a x l is is'))
      cases true false is is' less = refl
      cases false true is is' less = ap first (none less is')
      cases false false is is' less = refl

      go : group a (singles lt (Some x) xs) ≡ cond u [] (first g)
          → (t : Bool) → ties lt l x ≡ t
          → group a (cond t (singles lt (Some x) xs) (x ∷ singles lt (Some x) xs))
          ≡ cond (ties lt a l) [] (first (cond u (x ∷ g) g))
      go rest true is =
          rest ∙ pick u
          ∙ ap (λ t. cond t [] (first (cond u (x ∷ g) g))) (sym (switch a l x is))
      go rest false is =
          ap (λ r. cond u (x ∷ r) r) rest
          ∙ cases u (ties lt a l) refl refl (less_of l x up.0.0 is)

  pub group_distinct : (a : X) (xs : List X) → Up lt xs
      → group a (singles lt None xs) ≡ first (group a xs)
  group_distinct a [] up = refl
  group_distinct a (x ∷ xs) up =
      ap (λ r. cond (ties lt a x) (x ∷ r) r) (group_singles a x xs up) ∙ go (ties lt a x)
    where
      g : List X
      g = group a xs

      go : (t : Bool) → cond t (x ∷ cond t [] (first g)) (cond t [] (first g))
          ≡ first (cond t (x ∷ g) g)
      go true = refl
      go false = refl

  -- ---- neighbours

  pub up_from : (xs : List X) → IsSortedBy lt xs → Up lt xs
  up_from [] sorted = tt
  up_from (x ∷ []) sorted = (tt, tt)
  up_from (x ∷ (y ∷ xs)) sorted =
      let ge : lt y x ≡ false = sorted 0 x (omega arith) (omega arith) in
      let rest : Up lt (y ∷ xs) =
      up_from (y ∷ xs) (λ k d low high.
      let next : suc k + 1 ≡ suc (k + 1) = omega arith in
      ap (λ n. lt (get_or (x ∷ (y ∷ xs)) n d) (get_or (y ∷ xs) k d)) (sym next)
      ∙ sorted (suc k) d (omega arith) (omega (arith, high))) in
      ((ge, above_trans x y xs ge rest.0), rest)

  sorted_at : (xs : List X) → Up lt xs → (k : ℕ) (d : X) → suc k < length xs
      → lt (get_or xs (suc k) d) (get_or xs k d) ≡ false
  sorted_at [] up k d low = absurd (omega (arith, low))
  sorted_at (x ∷ []) up k d low = absurd (omega (arith, low))
  sorted_at (x ∷ (y ∷ xs)) up zero d low = up.0.0
  sorted_at (x ∷ (y ∷ xs)) up (suc k) d low = sorted_at (y ∷ xs) up.1 k d (omega (arith, low))

  pub sorted_from : (xs : List X) → Up lt xs → IsSortedBy lt xs
  sorted_from xs up = λ k d low high.
      let next : k + 1 ≡ suc k = omega arith in
      ap (λ n. lt (get_or xs n d) (get_or xs k d)) next
      ∙ sorted_at xs up k d (omega (arith, high))

-- ---- lists of lists

abbrev pub all : {X : Type 0} → List (List X) → List X
all [] = []
all (xs ∷ lists) = xs ++ all lists

all_push : {X : Type 0} (lists : List (List X)) (xs : List X)
    → all (lists ++ xs ∷ []) ≡ all lists ++ xs
all_push [] xs = append-nil xs
all_push (ys ∷ lists) xs =
    ap (λ l. ys ++ l) (all_push lists xs) ∙ sym (append_assoc ys (all lists) xs)

module _ {X : Type 0} (p : X → Bool) (f : List X → List X) where
  pub gather : ((xs : List X) → filter p (f xs) ≡ filter p xs) → (lists : List (List X))
      → filter p (all (map f lists)) ≡ filter p (all lists)
  gather same [] = refl
  gather same (xs ∷ lists) =
      filter-append p (f xs) (all (map f lists))
      ∙ ap₂ (λ a b. a ++ b) (same xs) (gather same lists)
      ∙ sym (filter-append p xs (all lists))

  pub gather_first : ((xs : List X) → filter p (f xs) ≡ first (filter p xs))
      → (lists : List (List X))
      → first (filter p (all (map f lists))) ≡ first (filter p (all lists))
  gather_first same [] = refl
  gather_first same (xs ∷ lists) =
      let a = filter p xs in
      let r = filter p (all (map f lists)) in
      let r' = filter p (all lists) in
      ap first (filter-append p (f xs) (all (map f lists)) ∙ ap (λ l. l ++ r) (same xs))
      ∙ first-first a r ∙ sym (first-second a r)
      ∙ ap (λ l. first (a ++ l)) (gather_first same lists)
      ∙ first-second a r' ∙ ap first (sym (filter-append p xs (all lists)))

  pub gather_turned : ((xs : List X) → filter p (f xs) ≡ reverse (filter p xs))
      → (lists : List (List X))
      → filter p (all (reverse (map f lists))) ≡ reverse (filter p (all lists))
  gather_turned same [] = refl
  gather_turned same (xs ∷ lists) =
      ap (λ l. filter p (all l)) (reverse-cons (f xs) (map f lists))
      ∙ ap (filter p) (all_push (reverse (map f lists)) (f xs))
      ∙ filter-append p (all (reverse (map f lists))) (f xs)
      ∙ ap₂ (λ a b. a ++ b) (gather_turned same lists) (same xs)
      ∙ sym (reverse-append (filter p xs) (filter p (all lists)))
      ∙ ap reverse (sym (filter-append p xs (all lists)))

-- ---- sorting parts, and merging them

abbrev pub turn : {X : Type 0} → Bool → List X → List X
turn true xs = reverse xs
turn false xs = xs

-- the order, or the other way round
abbrev pub facing : {X : Type 0} → (X → X → Bool) → Bool → X → X → Bool
facing lt false x y = lt x y
facing lt true x y = lt y x

ties-turned : {X : Type 0} (lt : X → X → Bool) (a x : X) → ties (λ y z. lt z y) a x ≡ ties lt a x
ties-turned lt a x = go (lt a x) (lt x a)
  where
    go : (t u : Bool) → not u && not t ≡ not t && not u
    go true true = refl
    go true false = refl
    go false true = refl
    go false false = refl

-- the runs in the order in which they are merged
abbrev pub in_turn : {X : Type 0} → Bool → Bool → List (List X) → List (List X)
in_turn turned unique lists = turn (turned && not unique) lists

module _ {X : Type 0} (lt : X → X → Bool) where
  -- rows, or one of those that tie
  abbrev pub chosen : Bool → Option X → List X → List X
  chosen true last xs = singles lt last xs
  chosen false last xs = xs

  -- sorted rows as they are arranged
  abbrev pub shaped : Bool → Bool → List X → List X
  shaped turned unique xs = turn turned (chosen unique None (isort lt xs))

module _ {X : Type 0} (lt : X → X → Bool) (o : IsStrictWeakOrder lt) where
  back : IsStrictWeakOrder (λ x y. lt y x)
  back = IsStrictWeakOrder-flip lt o

  singles-turned : (last : Option X) (xs : List X)
      → singles lt last xs ≡ singles (λ y z. lt z y) last xs
  singles-turned last [] = refl
  singles-turned last (x ∷ xs) =
      ap₂ (λ t l. cond t l (x ∷ l)) (one last) (singles-turned (Some x) xs)
    where
      one : (l : Option X) → tied lt l x ≡ tied (λ y z. lt z y) l x
      one None = refl
      one (Some l) = sym (ties-turned lt l x)

  g : X → List X → List X
  g a xs = filter (ties lt a) xs

  unique_group : (a : X) (xs : List X)
      → filter (ties lt a) (singles lt None (isort lt xs)) ≡ first (filter (ties lt a) xs)
  unique_group a xs =
      group_distinct lt o a (isort lt xs) (up_isort lt o xs) ∙ ap first (filter_isort lt o a xs)

  turned_group : (a : X) (xs : List X)
      → filter (ties lt a) (reverse (isort lt xs)) ≡ reverse (filter (ties lt a) xs)
  turned_group a xs =
      filter-reverse (ties lt a) (isort lt xs) ∙ ap reverse (filter_isort lt o a xs)

  both_group : (a : X) (xs : List X)
      → filter (ties lt a) (reverse (singles lt None (isort lt xs))) ≡ first (filter (ties lt a) xs)
  both_group a xs =
      filter-reverse (ties lt a) (singles lt None (isort lt xs))
      ∙ ap reverse (unique_group a xs) ∙ reverse-first (filter (ties lt a) xs)

  back_isort_group : (a : X) (xs : List X)
      → filter (ties lt a) (isort (λ x y. lt y x) xs) ≡ filter (ties lt a) xs
  back_isort_group a xs =
      filter_agree (ties lt a) (ties (λ x y. lt y x) a) (λ x. sym (ties-turned lt a x))
      (isort (λ x y. lt y x) xs)
      ∙ filter_isort (λ x y. lt y x) back a xs
      ∙ filter_agree (ties (λ x y. lt y x) a) (ties lt a) (ties-turned lt a) xs

  back_unique_group : (a : X) (xs : List X)
      → filter (ties lt a) (singles lt None (isort (λ x y. lt y x) xs))
      ≡ first (filter (ties lt a) xs)
  back_unique_group a xs =
      let flip = filter_agree (ties (λ x y. lt y x) a) (ties lt a) (ties-turned lt a) in
      ap (filter (ties lt a)) (singles-turned None (isort (λ x y. lt y x) xs))
      ∙ sym (flip (singles (λ x y. lt y x) None (isort (λ x y. lt y x) xs)))
      ∙ group_distinct (λ x y. lt y x) back a (isort (λ x y. lt y x) xs)
      (up_isort (λ x y. lt y x) back xs)
      ∙ ap first (flip (isort (λ x y. lt y x) xs) ∙ back_isort_group a xs)

  back_same : (xs ys : List X) → Up (λ x y. lt y x) xs → Up (λ x y. lt y x) ys
      → ((a : X) → filter (ties lt a) xs ≡ filter (ties lt a) ys) → xs ≡ ys
  back_same xs ys up up' same =
      same_sorted (λ x y. lt y x) back xs ys up up'
      (λ a. filter_agree (ties (λ x y. lt y x) a) (ties lt a) (ties-turned lt a) xs ∙ same a
      ∙ filter_agree (ties lt a) (ties (λ x y. lt y x) a) (λ x. sym (ties-turned lt a x)) ys)

  -- merging sorted parts gives all of them sorted
  pub parts_merged : (turned unique : Bool) (lists : List (List X))
      → chosen lt unique None (isort (facing lt turned)
      (all (in_turn turned unique (map (shaped lt turned unique) lists))))
      ≡ shaped lt turned unique (all lists)
  parts_merged false false lists =
      same_sorted lt o (isort lt (all (map (isort lt) lists))) (isort lt (all lists))
      (up_isort lt o (all (map (isort lt) lists))) (up_isort lt o (all lists))
      (λ a. filter_isort lt o a (all (map (isort lt) lists))
      ∙ gather (ties lt a) (isort lt) (filter_isort lt o a) lists
      ∙ sym (filter_isort lt o a (all lists)))
  parts_merged false true lists =
      let f = λ (xs : List X). singles lt None (isort lt xs) in
      same_sorted lt o (f (all (map f lists))) (f (all lists))
      (up_singles lt None (isort lt (all (map f lists))) (up_isort lt o (all (map f lists))))
      (up_singles lt None (isort lt (all lists)) (up_isort lt o (all lists)))
      (λ a. unique_group a (all (map f lists))
      ∙ gather_first (ties lt a) f (unique_group a) lists ∙ sym (unique_group a (all lists)))
  parts_merged true false lists =
      let f = λ (xs : List X). reverse (isort lt xs) in
      let m : List X = all (reverse (map f lists)) in
      back_same (isort (λ x y. lt y x) m) (f (all lists))
      (up_isort (λ x y. lt y x) back m) (up_reverse lt (isort lt (all lists)) (up_isort lt o (all lists)))
      (λ a. back_isort_group a m ∙ gather_turned (ties lt a) f (turned_group a) lists
      ∙ sym (turned_group a (all lists)))
  parts_merged true true lists =
      let f = λ (xs : List X). reverse (singles lt None (isort lt xs)) in
      let m : List X = all (map f lists) in
      back_same (singles lt None (isort (λ x y. lt y x) m)) (f (all lists))
      (subst (Up (λ x y. lt y x)) (sym (singles-turned None (isort (λ x y. lt y x) m)))
      (up_singles (λ x y. lt y x) None (isort (λ x y. lt y x) m) (up_isort (λ x y. lt y x) back m)))
      (up_reverse lt (singles lt None (isort lt (all lists)))
      (up_singles lt None (isort lt (all lists)) (up_isort lt o (all lists))))
      (λ a. back_unique_group a m ∙ gather_first (ties lt a) f (both_group a) lists
      ∙ sym (both_group a (all lists)))
