-- Bytes can be split at their first mark, such as a space or a line feed, in only one way.
use Rattle.std.proofs.Common.{◌≡◌, ◌≢◌, ◌⊎◌, inl, inr, ℕ, List, [], ◌∷◌, ◌++◌, refl}
use Rattle.std.proofs.lemmas.List.Elements.{All-head, All-tail}
use Rattle.std.specs.Prelude.{All}

-- the bytes have no mark
abbrev pub IsBefore : ℕ → List ℕ → Type 0
IsBefore mark bytes = All (λ b. b ≢ mark) bytes

-- the bytes are empty, or a mark and what follows it
abbrev pub StartsAt : ℕ → List ℕ → Type 0
StartsAt mark bytes = (bytes ≡ []) ⊎ ((rest : List ℕ) × (bytes ≡ mark ∷ rest))

pub one_cut : (mark : ℕ) (a b xs ys : List ℕ) → IsBefore mark a → IsBefore mark b → StartsAt mark xs
    → StartsAt mark ys → a ++ xs ≡ b ++ ys
    → (a ≡ b) × (xs ≡ ys)
one_cut mark [] [] xs ys one_a one_b from_xs from_ys same = (refl, same)
one_cut mark [] (b ∷ bs) xs ys one_a one_b (inl none) from_ys same = absurd cc
one_cut mark [] (b ∷ bs) xs ys one_a one_b (inr (rest, is)) from_ys same =
    let marked : b ≡ mark = cc in absurd (All-head (λ c. c ≢ mark) b bs one_b marked)
one_cut mark (a ∷ more) [] xs ys one_a one_b from_xs (inl none) same = absurd cc
one_cut mark (a ∷ more) [] xs ys one_a one_b from_xs (inr (rest, is)) same =
    let marked : a ≡ mark = cc in absurd (All-head (λ c. c ≢ mark) a more one_a marked)
one_cut mark (a ∷ others) (b ∷ bs) xs ys one_a one_b from_xs from_ys same =
    let head : a ≡ b = cc in
    let tails : others ++ xs ≡ bs ++ ys = cc in
    let rest = one_cut mark others bs xs ys (All-tail (λ c. c ≢ mark) a others one_a)
    (All-tail (λ c. c ≢ mark) b bs one_b) from_xs from_ys tails in
    let words : others ≡ bs = rest.0 in (cc, rest.1)

-- bytes with a mark are not without one
pub not_before : (mark : ℕ) (bytes more : List ℕ) → IsBefore mark (bytes ++ mark ∷ more) → ⊥
not_before mark [] more one = All-head (λ c. c ≢ mark) mark more one refl
not_before mark (b ∷ bytes) more one =
    not_before mark bytes more (All-tail (λ c. c ≢ mark) b (bytes ++ mark ∷ more) one)

-- a split at a mark is unique
pub one_cut_at : (mark : ℕ) (a b xs ys : List ℕ) → IsBefore mark a → IsBefore mark b
    → a ++ mark ∷ xs ≡ b ++ mark ∷ ys → (a ≡ b) × (xs ≡ ys)
one_cut_at mark a b xs ys one_a one_b same =
    let cut = one_cut mark a b (mark ∷ xs) (mark ∷ ys) one_a one_b (inr (xs, refl))
    (inr (ys, refl)) same in
    let rests : mark ∷ xs ≡ mark ∷ ys = cut.1 in (cut.0, cc)
