-- The laws of flags.
use Rattle.std.proofs.Common.{◌≡◌, ℕ, zero, suc, ◌^◌, ◌<◌, Bool, true, false, cond, List, []}
use Rattle.std.proofs.Common.{◌∷◌, ◌++◌, length, replicate, refl, sym, ap, ap₂, inl, inr}
use Rattle.std.proofs.Common.{◌∙◌, arith, drop, get_or, eqb-true}
use Rattle.std.specs.Prelude.{◌==◌}
use Rattle.std.proofs.lemmas.Bool.{cases_Bool, cond_both, eqb-false, false≢true}
use Rattle.std.proofs.lemmas.List.Elements.{All-cons, All-head, All-nil, All-tail}
use Rattle.typed_chunk.specs.Flags.{all_have, flag_bits, flags, rows_of, some_has}
use Rattle.typed_chunk.specs.Packed.{FitWidth, packed}

-- Rows of which none or all have a value.
pub none_has : (has : List Bool) → some_has has ≡ false → has ≡ replicate (length has) false
none_has [] e = refl
none_has (true ∷ has) e = absurd (false≢true (sym e))
none_has (false ∷ has) e = ap (λ (xs : List Bool). false ∷ xs) (none_has has e)

pub each_has : (has : List Bool) → all_have has ≡ true → has ≡ replicate (length has) true
each_has [] e = refl
each_has (true ∷ has) e = ap (λ (xs : List Bool). true ∷ xs) (each_has has e)
each_has (false ∷ has) e = absurd (false≢true e)

pub some-false : (count : ℕ) → some_has (replicate count false) ≡ false
some-false zero = refl
some-false (suc count) = some-false count

pub some-true : (count : ℕ) → 0 < count → some_has (replicate count true) ≡ true
some-true zero some = absurd (omega (arith, some))
some-true (suc count) some = refl

pub all-true : (count : ℕ) → all_have (replicate count true) ≡ true
all-true zero = refl
all-true (suc count) = all-true count

-- The bytes of flags, by which rows have a value.
pub flags_none : (has : List Bool) → some_has has ≡ false → flags has ≡ 0 ∷ []
flags_none has none = rw none refl

pub flags_all : (has : List Bool) → some_has has ≡ true → all_have has ≡ true → flags has ≡ 1 ∷ []
flags_all has some all = rw (some, all) refl

pub flags_some : (has : List Bool) → some_has has ≡ true → all_have has ≡ false
    → flags has ≡ 2 ∷ packed 1 (flag_bits has)
flags_some has some all = rw (some, all) refl

-- Rows by their bits.
pub rows-bits : (has : List Bool) → rows_of (flag_bits has) ≡ has
rows-bits [] = refl
rows-bits (true ∷ has) = ap (λ (xs : List Bool). true ∷ xs) (rows-bits has)
rows-bits (false ∷ has) = ap (λ (xs : List Bool). false ∷ xs) (rows-bits has)

none_left : (code : ℕ) → code < 2 ^ 1 → (code ≡ 1 → ⊥) → 0 ≡ code
none_left zero low other = refl
none_left (suc zero) low other = absurd (other refl)
none_left (suc (suc code)) low other = absurd (omega (arith, low))

bit_of : (code : ℕ) → code < 2 ^ 1 → cond (code == 1) 1 0 ≡ code
bit_of code low =
    cond_both (code == 1) 1 0 (λ (x : ℕ). x ≡ code) (λ e. sym (eqb-true code 1 e))
    (λ e. none_left code low (eqb-false code 1 e))

pub bits-rows : (codes : List ℕ) → FitWidth 1 codes → flag_bits (rows_of codes) ≡ codes
bits-rows [] low = refl
bits-rows (code ∷ codes) low =
    ap₂ (λ (x : ℕ) (xs : List ℕ). x ∷ xs)
    (bit_of code (All-head (λ c. c < 2 ^ 1) code codes low))
    (bits-rows codes (All-tail (λ c. c < 2 ^ 1) code codes low))

pub are_bits : (has : List Bool) → FitWidth 1 (flag_bits has)
are_bits [] = All-nil (λ code. code < 2 ^ 1)
are_bits (true ∷ has) =
    All-cons (λ code. code < 2 ^ 1) 1 (flag_bits has) (omega arith) (are_bits has)
are_bits (false ∷ has) =
    All-cons (λ code. code < 2 ^ 1) 0 (flag_bits has) (omega arith) (are_bits has)

-- What the first byte of flags says of the rows.
pub begins_0 : (has : List Bool) (bytes rest : List ℕ) → 0 ∷ bytes ≡ flags has ++ rest
    → (has ≡ replicate (length has) false) × (bytes ≡ rest)
begins_0 has bytes rest e = elim (cases_Bool (some_has has)) [
  | inr none ↦
      let same : 0 ∷ bytes ≡ 0 ∷ rest =
      e ∙ ap (λ (xs : List ℕ). xs ++ rest) (flags_none has none) in
      (none_has has none, ap (drop 1) same)
  | inl some ↦ elim (cases_Bool (all_have has)) [
    | inl all ↦
        let same : 0 ∷ bytes ≡ 1 ∷ rest =
        e ∙ ap (λ (xs : List ℕ). xs ++ rest) (flags_all has some all) in
        absurd (omega (arith, ap (λ (xs : List ℕ). get_or xs 0 0) same))
    | inr few ↦
        let same : 0 ∷ bytes ≡ 2 ∷ (packed 1 (flag_bits has) ++ rest) =
        e ∙ ap (λ (xs : List ℕ). xs ++ rest) (flags_some has some few) in
        absurd (omega (arith, ap (λ (xs : List ℕ). get_or xs 0 0) same))
  ]
]

pub begins_1 : (has : List Bool) (bytes rest : List ℕ) → 1 ∷ bytes ≡ flags has ++ rest
    → (has ≡ replicate (length has) true) × (bytes ≡ rest)
begins_1 has bytes rest e = elim (cases_Bool (some_has has)) [
  | inr none ↦
      let same : 1 ∷ bytes ≡ 0 ∷ rest =
      e ∙ ap (λ (xs : List ℕ). xs ++ rest) (flags_none has none) in
      absurd (omega (arith, ap (λ (xs : List ℕ). get_or xs 0 0) same))
  | inl some ↦ elim (cases_Bool (all_have has)) [
    | inl all ↦
        let same : 1 ∷ bytes ≡ 1 ∷ rest =
        e ∙ ap (λ (xs : List ℕ). xs ++ rest) (flags_all has some all) in
        (each_has has all, ap (drop 1) same)
    | inr few ↦
        let same : 1 ∷ bytes ≡ 2 ∷ (packed 1 (flag_bits has) ++ rest) =
        e ∙ ap (λ (xs : List ℕ). xs ++ rest) (flags_some has some few) in
        absurd (omega (arith, ap (λ (xs : List ℕ). get_or xs 0 0) same))
  ]
]

pub record BeginsWithBits (has : List Bool) (bytes rest : List ℕ) : Type 0 where
  pub some : some_has has ≡ true
  pub few : all_have has ≡ false
  pub same : bytes ≡ packed 1 (flag_bits has) ++ rest

pub begins_2 : (has : List Bool) (bytes rest : List ℕ) → 2 ∷ bytes ≡ flags has ++ rest
    → BeginsWithBits has bytes rest
begins_2 has bytes rest e = elim (cases_Bool (some_has has)) [
  | inr none ↦
      let same : 2 ∷ bytes ≡ 0 ∷ rest =
      e ∙ ap (λ (xs : List ℕ). xs ++ rest) (flags_none has none) in
      absurd (omega (arith, ap (λ (xs : List ℕ). get_or xs 0 0) same))
  | inl some ↦ elim (cases_Bool (all_have has)) [
    | inl all ↦
        let same : 2 ∷ bytes ≡ 1 ∷ rest =
        e ∙ ap (λ (xs : List ℕ). xs ++ rest) (flags_all has some all) in
        absurd (omega (arith, ap (λ (xs : List ℕ). get_or xs 0 0) same))
    | inr few ↦
        let same : 2 ∷ bytes ≡ 2 ∷ (packed 1 (flag_bits has) ++ rest) =
        e ∙ ap (λ (xs : List ℕ). xs ++ rest) (flags_some has some few) in
        record { some = some; few = few; same = ap (drop 1) same }
  ]
]

-- The cases of writing.
pub ruleset flag_cases = (flags_none, flags_all, flags_some, are_bits)
