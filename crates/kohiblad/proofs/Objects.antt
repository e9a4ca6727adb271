-- Pairs of rows in which a key occurs twice.
use Rattle.std.proofs.Common.{◌≡◌, ℕ, Bool, true, false, ◌||◌, List, [], ◌∷◌, ◌++◌, IsTrue}
use Rattle.std.proofs.Common.{refl, sym, ap, ap₂, subst, ◌∙◌}
use Rattle.std.specs.List.{IsDistinct, AllByRecursion, list_any}
use Rattle.std.specs.Map.{keys_of}
use Rattle.std.specs.Str.{bytes_eq}
use Rattle.std.proofs.lemmas.List.{map-append}
use Rattle.std.proofs.lemmas.Slice.Eq.{bytes_eq-Decides}
use Rattle.jsonb.specs.Building.{has_key}

keys-append : (xs : List (List ℕ × List ℕ)) (ys : List (List ℕ × List ℕ))
    → keys_of (xs ++ ys) ≡ keys_of xs ++ keys_of ys
keys-append xs ys = map-append (λ p. p.0) xs ys

-- A list in which a key occurs again is not distinct.
at_middle : (P : List ℕ → Type 0) (xs ys : List (List ℕ)) (y : List ℕ)
    → AllByRecursion P (xs ++ y ∷ ys) → P y
at_middle P [] ys y h = h.0
at_middle P (x ∷ xs) ys y h = at_middle P xs ys y h.1

same_bytes : (x y : List ℕ) → bytes_eq x y ≡ true → x ≡ y
same_bytes x y h = (bytes_eq-Decides x y).0 h

twice_by : (b : Bool) (x : List ℕ) (xs ys : List (List ℕ)) (y : List ℕ) → bytes_eq y x ≡ b
    → (IsTrue (list_any (bytes_eq y) xs) → ⊥) → IsTrue (b || list_any (bytes_eq y) xs)
    → bytes_eq x y ≡ false → ⊥
twice_by true x xs ys y is more there apart =
    let same = same_bytes y x is in
    let never : true ≡ false = sym is ∙ ap₂ bytes_eq same (sym same) ∙ apart in
    let different : ⊥ = cc in
    different
twice_by false x xs ys y is more there apart = more there

twice : (xs ys : List (List ℕ)) (y : List ℕ) → IsTrue (list_any (bytes_eq y) xs)
    → IsDistinct bytes_eq (xs ++ y ∷ ys) → ⊥
unfolding IsDistinct
twice [] ys y there distinct = let never : ⊥ = cc in never
twice (x ∷ xs) ys y there distinct =
    twice_by (bytes_eq y x) x xs ys y refl
    (λ more. twice xs ys y more distinct.1) there
    (at_middle (λ z. bytes_eq x z ≡ false) xs ys y distinct.0)

-- A key that is there before is there twice.
pub not_distinct : (pairs before later : List (List ℕ × List ℕ)) (pair : List ℕ × List ℕ)
    → pairs ≡ before ++ pair ∷ later → IsTrue (has_key before pair.0)
    → IsDistinct bytes_eq (keys_of pairs) → ⊥
not_distinct pairs before later pair parts there distinct =
    let keys = ap keys_of parts ∙ keys-append before (pair ∷ later) in
    twice (keys_of before) (keys_of later) pair.0 there
    (subst (IsDistinct bytes_eq) keys distinct)
