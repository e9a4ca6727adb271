-- Powers of ten, and numbers that begin with given digits.
use Rattle.std.proofs.Common.{◌≡◌, ℕ, zero, suc, ◌+◌, ◌-◌, ◌*◌, ◌^◌, ◌<◌, ◌≤◌, inl, inr, true}
use Rattle.std.proofs.Common.{Bool, false, refl, ap, ◌∙◌, lit<, arith, List, [], ◌∷◌, length}
use Rattle.std.proofs.Math.Nat.{pow-le-pow_right, one-le-pow, mul-le-mul_right, mul-le-mul_left}
use Rattle.std.proofs.Math.Nat.{div-mul-le_self, lt-div-mul-add, mul-div-le, pow-suc}
use Rattle.std.specs.Prelude.{◌/◌, ◌||◌, ◌==◌, nat_lt}
use Rattle.std.specs.Char.{digit_value, is_ascii_digit}
use Rattle.std.specs.Str.Parse.{digits_value_after}
use Rattle.std.proofs.lemmas.Bool.{cases_lt}
use Rattle.std.proofs.lemmas.Bool.Decides.{nat_tests}
use Rattle.std.proofs.lemmas.Nat.{le-div}
use Rattle.jsonb_value.specs.Json.Characters.{all_digits}
use Rattle.jsonb_value.proofs.Json.Tests.{and_true, and_both, bool_cases}
use Rattle.json_fault.specs.Scan.{digits_after_first, log10, reaches}
use Rattle.json_fault.proofs.Conditions.{less_from, most_from, most_test}

-- ---- the greatest power of ten below a number

-- The number has this count of digits after the first.
pub record HasDigits (count n : ℕ) : Type 0 where
  pub low : 10 ^ count ≤ n
  pub high : n < 10 * 10 ^ count

power_more : (count n : ℕ) → 10 ^ count ≤ n / 10 → 10 ^ suc count ≤ n
power_more count n h = let part = div-mul-le_self n 10 in omega arith

power_next : (count n : ℕ) → n / 10 < 10 * 10 ^ count → n < 10 * 10 ^ suc count
power_next count n h = let part = lt-div-mul-add {a = n} {b = 10} (lit< tt) in omega arith

no_less : (m n : ℕ) → nat_lt m n ≡ false → n ≤ m
no_less m n e = grind (arith, nat_tests)

tenth_some : (n : ℕ) → 10 ≤ n → 0 < n / 10
tenth_some n h = omega arith

tenth_less : (most n : ℕ) → 0 < n → n ≤ suc most → n / 10 ≤ most
tenth_less most n h g = omega arith

counted : (most n : ℕ) → 0 < n → n ≤ most → HasDigits (digits_after_first most n) n
counted zero n some h = absurd (omega arith)
counted (suc most) n some h = elim (bool_cases (nat_lt n 10)) [
  | inl few ↦
      let less = less_from n 10 few in
      rw few (record { low = omega arith; high = omega arith })
  | inr many ↦
      let large = no_less n 10 many in
      let tenth = counted most (n / 10) (tenth_some n large) (tenth_less most n some h) in
      rw many (record {
        low = power_more _ n tenth.low;
        high = power_next _ n tenth.high;
      })
]

pub log10_has : (n : ℕ) → 0 < n → HasDigits (log10 n) n
unfolding log10
log10_has n some = counted n n some (omega arith)

-- a power that is at most a number has no more digits than it
pub power_within : (a b n : ℕ) → 10 ^ a ≤ n → n < 10 * 10 ^ b → a ≤ b
power_within a b n low high = elim (cases_lt b a) [
  | inl more ↦
      let grown : 10 ^ suc b ≤ 10 ^ a = pow-le-pow_right {n = 10} (lit< tt) more in
      absurd (omega arith)
  | inr is ↦ is
]

pub log10_is : (r n : ℕ) → 10 ^ r ≤ n → n < 10 * 10 ^ r → r ≡ log10 n
log10_is r n low high =
    let one : 1 ≤ 10 ^ r = one-le-pow r 10 (lit< tt) in
    let has = log10_has n (omega arith) in
    let under = power_within r (log10 n) n low has.high in
    let over = power_within (log10 n) r n has.low high in
    omega arith

pub power_some : (n : ℕ) → 0 < 10 ^ n
power_some n = one-le-pow n 10 (lit< tt)

pub log10_none : 0 ≡ log10 0
unfolding log10
log10_none = refl

-- ---- digits after a value

pub grows : (m d : ℕ) → m ≤ m * 10 + d
grows m d = omega arith

pub value_grows : (ds : List ℕ) (m : ℕ) → m ≤ digits_value_after 10 m ds
value_grows [] m = omega arith
value_grows (d ∷ ds) m =
    let more = value_grows ds (m * 10 + digit_value d) in
    let first = grows m (digit_value d) in
    omega arith

pub value_ordered : (ds : List ℕ) (m n : ℕ) → m ≤ n
    → digits_value_after 10 m ds ≤ digits_value_after 10 n ds
value_ordered [] m n h = h
value_ordered (d ∷ ds) m n h =
    value_ordered ds (m * 10 + digit_value d) (n * 10 + digit_value d) (omega arith)

-- The number begins with the digits of `value`, and so many others come after them.
pub record StartsWith (value count number : ℕ) : Type 0 where
  pub low : value * 10 ^ count ≤ number
  pub high : number < (value + 1) * 10 ^ count

digit_less : (c : ℕ) → is_ascii_digit c ≡ true → digit_value c < 10
digit_less c e = grind (arith, nat_tests)

starts_more : (v d count n : ℕ) → d < 10 → StartsWith (v * 10 + d) count n
    → StartsWith v (suc count) n
starts_more v d count n h more =
    let share : (d + 1) * 10 ^ count ≤ 10 * 10 ^ count = mul-le-mul_right (10 ^ count) (omega arith)
    in
    let low = more.low in
    let high = more.high in
    record { low = rw (pow-suc 10 count) (omega arith); high = rw (pow-suc 10 count) (omega arith) }

pub digits_start : (ds : List ℕ) (v : ℕ) → all_digits ds ≡ true
    → StartsWith v (length ds) (digits_value_after 10 v ds)
digits_start [] v all = record { low = omega arith; high = omega arith }
digits_start (d ∷ ds) v all =
    let both = and_true (is_ascii_digit d) (all_digits ds) all in
    starts_more v (digit_value d) (length ds) (digits_value_after 10 (v * 10 + digit_value d) ds)
    (digit_less d both.0) (digits_start ds (v * 10 + digit_value d) both.1)

-- Digits that add `rest` after so many zeros.
pub record Spelled (count rest : ℕ) : Type 0 where
  pub digits : List ℕ
  pub are_digits : all_digits digits ≡ true
  pub is_value : (v : ℕ) → digits_value_after 10 v digits ≡ v * 10 ^ count + rest

spelled_digit : (q : ℕ) → q < 10 → is_ascii_digit (48 + q) ≡ true
spelled_digit q h = grind (arith, nat_tests)

spelled_value : (q : ℕ) → q < 10 → digit_value (48 + q) ≡ q
spelled_value q h = grind (arith, nat_tests)

quotient_less : (r p : ℕ) → 0 < p → r < 10 * p → r / p < 10
quotient_less r p some h = elim (cases_lt (r / p) 10) [
  | inl less ↦ less
  | inr more ↦
      let part = div-mul-le_self r p in
      let large : 10 * p ≤ r / p * p = mul-le-mul_right p more in
      absurd (omega arith)
]

value_split : (v q count r : ℕ) → q * 10 ^ count ≤ r
    → (v * 10 + q) * 10 ^ count + (r - q * 10 ^ count) ≡ v * 10 ^ suc count + r
value_split v q count r h = rw (pow-suc 10 count) (omega arith)

pub spelled : (count rest : ℕ) → rest < 10 ^ count → Spelled count rest
spelled zero rest h = record {
  digits = [];
  are_digits = refl;
  is_value = λ v. omega arith;
}
spelled (suc count) rest h =
    let p = 10 ^ count in
    let some : 1 ≤ p = one-le-pow count 10 (lit< tt) in
    let q = rest / p in
    let part : q * p ≤ rest = div-mul-le_self rest p in
    let past : rest < q * p + p = lt-div-mul-add {a = rest} {b = p} (omega arith) in
    let small : q < 10 = quotient_less rest p (omega arith) (omega arith) in
    let others = spelled count (rest - q * p) (omega arith) in
    record {
      digits = (48 + q) ∷ others.digits;
      are_digits = and_both _ _ (spelled_digit q small) others.are_digits;
      is_value = λ v. ap (λ d. digits_value_after 10 (v * 10 + d) others.digits)
          (spelled_value q small)
          ∙ others.is_value (v * 10 + q) ∙ value_split v q count rest part;
    }

-- ---- numbers in a range

below_next : (v l p : ℕ) → 0 < p → l < (v + 1) * p → l / p ≤ v
below_next v l p some h = elim (cases_lt v (l / p)) [
  | inl more ↦
      let part = div-mul-le_self l p in
      let large : (v + 1) * p ≤ l / p * p = mul-le-mul_right p (omega arith) in
      absurd (omega arith)
  | inr is ↦ is
]

not_zero : (u : ℕ) → (suc u == 0) ≡ false
not_zero u = grind (arith, nat_tests)

pub or_second : (a b : Bool) → b ≡ true → (a || b) ≡ true
or_second a b e = grind arith

or_other : (a b : Bool) → a ≡ false → (a || b) ≡ true → b ≡ true
or_other a b e h = grind arith

-- a number in the range that begins with the digits
pub reaches_from : (v count y least greatest : ℕ) → StartsWith v count y → least ≤ y
    → y ≤ greatest → reaches v least greatest ≡ true
reaches_from zero count y least greatest starts low high = refl
reaches_from (suc u) count y least greatest starts low high =
    let v = suc u in
    let some : 1 ≤ 10 ^ count = one-le-pow count 10 (lit< tt) in
    let first : v * 1 ≤ v * 10 ^ count = mul-le-mul_left v some in
    let within : v * 10 ^ count ≤ greatest = let start = starts.low in omega arith in
    let power : 10 ^ count ≤ greatest / v =
    le-div (10 ^ count) greatest v (omega arith) (omega arith) in
    let has = log10_has (greatest / v) (omega arith) in
    let most = log10 (greatest / v) in
    let fewer : count ≤ most = power_within count most (greatest / v) power has.high in
    let grown : 10 ^ count ≤ 10 ^ most = pow-le-pow_right {n = 10} (lit< tt) fewer in
    let wider : (v + 1) * 10 ^ count ≤ (v + 1) * 10 ^ most = mul-le-mul_left (v + 1) grown in
    let end = starts.high in
    or_second (v == 0) _ (and_both _ _ (most_test v greatest (omega arith))
    (most_test (least / 10 ^ most) v (below_next v least (10 ^ most) (omega arith) (omega arith))))

-- A number in the range begins with the digits of `value`.
pub record Reached (value least greatest : ℕ) : Type 0 where
  pub count : ℕ
  pub number : ℕ
  pub starts : StartsWith value count number
  pub is_low : least ≤ number
  pub is_high : number ≤ greatest

pub below_power : (n : ℕ) → n < 10 ^ n
below_power zero = lit< tt
below_power (suc n) = let less = below_power n in omega arith

pub reached : (v least greatest : ℕ) → least ≤ greatest → reaches v least greatest ≡ true
    → Reached v least greatest
reached zero least greatest range e =
    let less = below_power least in
    record {
      count = least;
      number = least;
      starts = record { low = omega arith; high = omega arith };
      is_low = omega arith;
      is_high = range;
    }
reached (suc u) least greatest range e =
    let v = suc u in
    let most = log10 (greatest / v) in
    let both = and_true _ _ (or_other (v == 0) _ (not_zero u) e) in
    let within = most_from v greatest both.0 in
    let begins = most_from (least / 10 ^ most) v both.1 in
    let some : 1 ≤ greatest / v = le-div 1 greatest v (omega arith) (omega arith) in
    let power = (log10_has (greatest / v) (omega arith)).low in
    let first : v * 10 ^ most ≤ v * (greatest / v) = mul-le-mul_left v power in
    let part : v * (greatest / v) ≤ greatest = mul-div-le greatest v in
    let one : 1 ≤ 10 ^ most = one-le-pow most 10 (lit< tt) in
    elim (cases_lt (v * 10 ^ most) least) [
      | inl above ↦
          let past : least < least / 10 ^ most * 10 ^ most + 10 ^ most =
          lt-div-mul-add {a = least} {b = 10 ^ most} (omega arith) in
          let share : least / 10 ^ most * 10 ^ most ≤ v * 10 ^ most =
          mul-le-mul_right (10 ^ most) begins in
          record {
            count = most;
            number = least;
            starts = record { low = omega arith; high = omega arith };
            is_low = omega arith;
            is_high = range;
          }
      | inr under ↦ record {
        count = most;
        number = v * 10 ^ most;
        starts = record { low = omega arith; high = omega arith };
        is_low = under;
        is_high = omega arith;
      }
    ]

-- digits that lead to a number
pub spelled_to : (v count number : ℕ) → StartsWith v count number
    → Spelled count (number - v * 10 ^ count)
spelled_to v count number starts =
    let low = starts.low in
    let high = starts.high in
    spelled count (number - v * 10 ^ count) (omega arith)
