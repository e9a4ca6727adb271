-- If a list is sorted stably by a part of each element, the list of these parts is sorted stably
-- too.
use Rattle.std.proofs.Common.{◌≡◌, ◌⊎◌, inl, inr, ◌&&◌, Bool, true, false, not, cond, List, [], ◌∷◌}
use Rattle.std.proofs.Common.{map, refl, sym, ap, ap₂, ◌∙◌}
use Rattle.std.specs.List.{All}
use Rattle.std.specs.Prelude.{filter}
use Rattle.std.specs.Cmp.{IsTotalOrder, alike_right, tied_back}
use Rattle.std.specs.Ordering.{is_lt, on, ordering_reverse}
use Rattle.std.specs.List.Sorted.{IsStable, ties}
use Rattle.std.specs.declared.cmp.Ordering.{Ordering}
use Rattle.std.specs.declared.cmp.Ordering.TheVariants.{Less, Equal, Greater}
use Rattle.std.proofs.lemmas.List.Elements.{filter_agree, All-head, All-tail}

pub filter-map : {X B : Type 0} (f : X → B) (p : B → Bool) (xs : List X)
    → filter p (map f xs) ≡ map f (filter (λ x. p (f x)) xs)
filter-map f p [] = refl
filter-map {X} {B} f p (x ∷ xs) =
    ap (λ (l : List B). cond (p (f x)) (f x ∷ l) l) (filter-map f p xs) ∙ inside (p (f x))
  where
    inside : (b : Bool)
        → cond b (f x ∷ map f (filter (λ x. p (f x)) xs)) (map f (filter (λ x. p (f x)) xs))
        ≡ map f (cond b (x ∷ filter (λ x. p (f x)) xs) (filter (λ x. p (f x)) xs))
    inside true = refl
    inside false = refl

-- Nothing passes a test, or something does.
passes : {X : Type 0} (p : X → Bool) (xs : List X) → (filter p xs ≡ []) ⊎ ((x : X) × (p x ≡ true))
passes p [] = inl refl
passes {X} p (x ∷ xs) = by (p x) refl (passes p xs)
  where
    by : (b : Bool) → p x ≡ b → (filter p xs ≡ []) ⊎ ((x : X) × (p x ≡ true))
        → (filter p (x ∷ xs) ≡ []) ⊎ ((x : X) × (p x ≡ true))
    by true is others = inr (x, is)
    by false is others = rw is others

tied : (r s : Ordering) → r ≡ ordering_reverse s → not (is_lt r) && not (is_lt s) ≡ true → r ≡ Equal
tied Less s turned e = let never : ⊥ = cc in absurd never
tied Equal s turned e = refl
tied Greater Less turned e = let never : ⊥ = cc in absurd never
tied Greater Equal turned e = let never : ⊥ = cc in absurd never
tied Greater Greater turned e = let never : ⊥ = cc in absurd never

module _ {B K : Type 0} (R : K → K → Ordering) (o : IsTotalOrder R) (key : B → K) where
  -- whether two elements have equal keys
  abbrev pub tie : B → B → Bool
  tie = ties (λ x y. is_lt (R (key x) (key y)))

  pub tie-Equal : (x y : B) → tie x y ≡ true → R (key x) (key y) ≡ Equal
  tie-Equal x y = tied (R (key x) (key y)) (R (key y) (key x)) (o.antisymm (key x) (key y))

  pub Equal-tie : (x y : B) → R (key x) (key y) ≡ Equal → tie x y ≡ true
  Equal-tie x y e = rw (e, tied_back o (key x) (key y) e) refl

  -- elements with equal keys tie with the same elements
  alike : (x y : B) → tie x y ≡ true → (z : B) → tie x z ≡ tie y z
  alike x y e z =
      let same = tie-Equal x y e in
      ap₂ (λ (r s : Ordering). not (is_lt r) && not (is_lt s))
      (o.congr (key x) (key y) (key z) same)
      (alike_right o (key x) (key y) (key z) same)

  module _ {X : Type 0} (f : X → B) (xs ys : List X)
      (stable : IsStable (on (λ x. key (f x)) R) xs ys) where
    kept-by : (b : B) (x : X) → tie b (f x) ≡ true
        → filter (λ y. tie b (f y)) ys ≡ filter (λ y. tie b (f y)) xs
    kept-by b x e =
        let same = filter_agree (λ y. tie b (f y)) (λ y. tie (f x) (f y))
        (λ y. alike b (f x) e (f y)) in
        same ys ∙ stable x ∙ sym (same xs)

    pub kept : (b : B) → filter (λ y. tie b (f y)) ys ≡ filter (λ y. tie b (f y)) xs
    kept b = by (passes (λ y. tie b (f y)) xs) (passes (λ y. tie b (f y)) ys)
      where
        by : (filter (λ y. tie b (f y)) xs ≡ []) ⊎ ((x : X) × (tie b (f x) ≡ true))
            → (filter (λ y. tie b (f y)) ys ≡ []) ⊎ ((x : X) × (tie b (f x) ≡ true))
            → filter (λ y. tie b (f y)) ys ≡ filter (λ y. tie b (f y)) xs
        by (inr (x, e)) other = kept-by b x e
        by (inl none) (inr (x, e)) = kept-by b x e
        by (inl none) (inl never) = never ∙ sym none

    pub IsStable-map : IsStable (on key R) (map f xs) (map f ys)
    IsStable-map b = filter-map f (tie b) ys ∙ ap (map f) (kept b) ∙ sym (filter-map f (tie b) xs)

-- The same if the elements are sorted by a key that each has of its part.
pub IsStable-by : {X B K : Type 0} (R : K → K → Ordering) → IsTotalOrder R → (key : B → K)
    (own : X → K) (f : X → B) (xs ys : List X) → All (λ x. own x ≡ key (f x)) xs
    → All (λ x. own x ≡ key (f x)) ys → IsStable (on own R) xs ys
    → IsStable (on key R) (map f xs) (map f ys)
IsStable-by {X} {B} {K} R o key own f xs ys left right stable b =
    filter-map f (tie R o key b) ys
    ∙ ap (map f) (sym (agree ys right) ∙ kept R o (λ k. k) own xs ys stable (key b) ∙ agree xs left)
    ∙ sym (filter-map f (tie R o key b) xs)
  where
    agree : (zs : List X) → All (λ x. own x ≡ key (f x)) zs
        → filter (λ x. tie R o (λ k. k) (key b) (own x)) zs ≡ filter (λ x. tie R o key b (f x)) zs
    agree [] all = refl
    agree (z ∷ zs) all =
        ap₂ (λ (k : K) (kept : List X). cond (tie R o (λ k. k) (key b) k) (z ∷ kept) kept)
        (All-head (λ x. own x ≡ key (f x)) z zs all)
        (agree zs (All-tail (λ x. own x ≡ key (f x)) z zs all))
