-- The laws of digits.
use Rattle.std.proofs.Common.{◌≡◌, ℕ, zero, suc, ◌+◌, ◌*◌, ◌/◌, ◌%◌, ◌^◌, ◌<◌, ◌≤◌, List, [], ◌∷◌}
use Rattle.std.proofs.Common.{◌++◌, length, get_or, take, drop, refl, sym, ap, ◌∙◌, arith, inl, inr}
use Rattle.std.proofs.lemmas.Nat.{mod_below, div_below}
use Rattle.std.proofs.Math.Nat.{add-mul-mod_self_left, add-mul-div_left, mod-eq_of_lt}
use Rattle.std.proofs.Math.Nat.{div-eq_of_lt, mod-add-div, div-div-eq-div-mul, pow-succ', pow-suc}
use Rattle.std.proofs.Math.Nat.{div-one, mod-one, zero-div, zero-mod, mul-le-mul_left, mul_assoc}
use Rattle.std.proofs.Math.Nat.{mul-add, one-le-pow}
use Rattle.std.proofs.Math.Nat.{pow-zero}
use Rattle.std.proofs.Math.Arith.{mod-mul}
use Rattle.std.proofs.lemmas.List.{get_or-drop, get_or-take, get_or_past, length-take}
use Rattle.std.proofs.lemmas.Bool.{cases_lt}
use Rattle.typed_chunk.specs.Digits.{number, digits}

-- All digits are below the base.
abbrev pub Below : ℕ → List ℕ → Type 0
Below base xs = (i : ℕ) → get_or xs i 0 < base

-- The lowest digit of a number, and the number of the others.
pub first_digit : (base x n : ℕ) → x < base → (x + base * n) % base ≡ x
first_digit base x n low = add-mul-mod_self_left x base n ∙ mod-eq_of_lt low

pub other_digits : (base x n : ℕ) → x < base → (x + base * n) / base ≡ n
other_digits base x n low =
    add-mul-div_left x n {y = base} (omega arith) ∙ ap (λ (k : ℕ). k + n) (div-eq_of_lt low)
    ∙ omega arith

-- The digits of the number with these digits are these.
pub digits-number : (base : ℕ) (xs : List ℕ) → Below base xs
    → digits base (length xs) (number base xs) ≡ xs
digits-number base [] below = refl
digits-number base (x ∷ xs) below =
    rw (
      first_digit base x (number base xs) (below 0),
      other_digits base x (number base xs) (below 0),
    )
    (ap (λ (ys : List ℕ). x ∷ ys) (digits-number base xs (λ i. below (suc i))))

pub length-digits : (base count n : ℕ) → length (digits base count n) ≡ count
length-digits base zero n = refl
length-digits base (suc count) n = ap suc (length-digits base count (n / base))

-- A number below a power of the base is that of so many digits.
pub number-digits : (base count n : ℕ) → 0 < base → n < base ^ count
    → number base (digits base count n) ≡ n
number-digits base zero n some low = omega (arith, low, pow-zero base)
number-digits base (suc count) n some low =
    let up : base ^ suc count ≡ base ^ count * base = pow-suc base count in
    let next : n / base < base ^ count = div_below n base (base ^ count) some (omega arith) in
    rw (number-digits base count (n / base) some next) (mod-add-div n base)

-- Each digit is below the base.
pub Below-digits : (base count n : ℕ) → 0 < base → Below base (digits base count n)
Below-digits base zero n some i = some
Below-digits base (suc count) n some zero = mod_below n base some
Below-digits base (suc count) n some (suc i) = Below-digits base count (n / base) some i

-- The number of digits is below the power of the base.
pub number-lt : (base : ℕ) (xs : List ℕ) → Below base xs → number base xs < base ^ length xs
number-lt base [] below = omega (arith, pow-zero base)
number-lt base (x ∷ xs) below =
    let rest = number-lt base xs (λ i. below (suc i)) in
    let up : base ^ suc (length xs) ≡ base * base ^ length xs = pow-succ' base (length xs) in
    let first = below 0 in
    let much : base * suc (number base xs) ≤ base * base ^ length xs =
    mul-le-mul_left base (omega (arith, rest)) in
    omega (arith, up, first, much)

-- One digit of a number.
pub get_or-digits : (base count n k : ℕ) → k < count
    → get_or (digits base count n) k 0 ≡ n / base ^ k % base
get_or-digits base zero n k low = absurd (omega arith)
get_or-digits base (suc count) n zero low =
    ap (λ (x : ℕ). x % base) (sym (div-one n) ∙ ap (λ (x : ℕ). n / x) (sym (pow-zero base)))
get_or-digits base (suc count) n (suc k) low =
    get_or-digits base count (n / base) k (omega arith)
    ∙ ap (λ (x : ℕ). x % base) (div-div-eq-div-mul n base (base ^ k)
    ∙ ap (λ (x : ℕ). n / x) (sym (pow-succ' base k)))

-- The number of the digits from one on.
pub number-drop : (base k : ℕ) (xs : List ℕ) → Below base xs
    → number base xs / base ^ k ≡ number base (drop k xs)
number-drop base zero xs below =
    ap (λ (x : ℕ). number base xs / x) (pow-zero base) ∙ div-one (number base xs)
number-drop base (suc k) [] below = zero-div (base ^ suc k)
number-drop base (suc k) (x ∷ xs) below =
    ap (λ (n : ℕ). (x + base * number base xs) / n) (pow-succ' base k)
    ∙ sym (div-div-eq-div-mul (x + base * number base xs) base (base ^ k))
    ∙ ap (λ (n : ℕ). n / base ^ k) (other_digits base x (number base xs) (below 0))
    ∙ number-drop base k xs (λ i. below (suc i))

-- The digits of a sum whose second part begins behind the first.
pub digits-append : (base m n x y : ℕ) → 0 < base → x < base ^ m
    → digits base (m + n) (x + base ^ m * y) ≡ digits base m x ++ digits base n y
digits-append base zero n x y some low =
    let none : x ≡ 0 = omega (arith, low, pow-zero base) in
    let few : zero + n ≡ n = omega arith in
    let one : base ^ zero * y ≡ 1 * y = ap (λ (k : ℕ). k * y) (pow-zero base) in
    let same : x + base ^ zero * y ≡ y = omega (arith, none, one) in
    rw (few, same) refl
digits-append base (suc m) n x y some low =
    let more : suc m + n ≡ suc (m + n) = omega arith in
    let up : base ^ suc m * y ≡ base * (base ^ m * y) =
    ap (λ (k : ℕ). k * y) (pow-succ' base m) ∙ mul_assoc base (base ^ m) y in
    let first : (x + base * (base ^ m * y)) % base ≡ x % base =
    add-mul-mod_self_left x base (base ^ m * y) in
    let others : (x + base * (base ^ m * y)) / base ≡ x / base + base ^ m * y =
    add-mul-div_left x (base ^ m * y) {y = base} some in
    let next : x / base < base ^ m = div_below x base (base ^ m) some
    (omega (arith, low, pow-suc base m)) in
    rw (more, up, first, others)
    (ap (λ (ys : List ℕ). x % base ∷ ys) (digits-append base m n (x / base) y some next))

-- The number of the first digits.
pub number-take : (base m : ℕ) (xs : List ℕ) → 0 < base → Below base xs
    → number base xs % base ^ m ≡ number base (take m xs)
number-take base zero xs some below =
    ap (λ (n : ℕ). number base xs % n) (pow-zero base) ∙ mod-one (number base xs)
number-take base (suc m) [] some below = zero-mod (base ^ suc m)
number-take base (suc m) (x ∷ xs) some below =
    let n = number base xs in
    let up : 0 < base ^ m = one-le-pow m base some in
    let apart : (x + base * n) % (base ^ m * base)
    ≡ ((x + base * n) / base % base ^ m) * base + (x + base * n) % base =
    mod-mul (x + base * n) {m = base ^ m} {c = base} up some in
    let first = first_digit base x n (below 0) in
    let others : (x + base * n) / base % base ^ m ≡ number base (take m xs) =
    ap (λ (k : ℕ). k % base ^ m) (other_digits base x n (below 0))
    ∙ number-take base m xs some (λ i. below (suc i)) in
    ap (λ (k : ℕ). (x + base * n) % k) (pow-suc base m) ∙ apart
    ∙ rw (others, first) (omega arith)

-- One more digit, the highest.
pub number-push : (base : ℕ) (xs : List ℕ) (y : ℕ)
    → number base (xs ++ y ∷ []) ≡ number base xs + base ^ length xs * y
number-push base [] y =
    let one : base ^ zero * y ≡ 1 * y = ap (λ (k : ℕ). k * y) (pow-zero base) in
    omega (arith, one)
number-push base (x ∷ xs) y =
    let rest = number-push base xs y in
    let up : base ^ suc (length xs) * y ≡ base * (base ^ length xs * y) =
    ap (λ (k : ℕ). k * y) (pow-succ' base (length xs)) ∙ mul_assoc base (base ^ length xs) y in
    let spread : base * (number base xs + base ^ length xs * y)
    ≡ base * number base xs + base * (base ^ length xs * y) =
    mul-add base (number base xs) (base ^ length xs * y) in
    rw rest (omega (arith, up, spread))

some_base : (base : ℕ) (xs : List ℕ) → Below base xs → 0 < base
some_base base xs below = let first = below 0 in omega (arith, first)

pub Below-drop : (base k : ℕ) (xs : List ℕ) → Below base xs → Below base (drop k xs)
Below-drop base k xs below i = rw (get_or-drop k xs i 0) (below (k + i))

pub Below-take : (base k : ℕ) (xs : List ℕ) → Below base xs → Below base (take k xs)
Below-take base k xs below i = elim (cases_lt i k) [
  | inl low ↦ rw (get_or-take k xs i 0 low) (below i)
  | inr high ↦
      let past : length (take k xs) ≤ i = omega (arith, length-take k xs, high) in
      rw (get_or_past (take k xs) i 0 past) (some_base base xs below)
]
