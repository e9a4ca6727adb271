-- Numbers that the format holds, by their sign, their magnitude, their scale and their exponent.
use Rattle.std.proofs.Common.{◌≡◌, ℕ, zero, suc, ◌+◌, ◌-◌, ◌*◌, ◌^◌, ◌<◌, ◌≤◌, inl, inr, Bool}
use Rattle.std.proofs.Common.{true, false, cond, refl, sym, ap, ◌∙◌, subst, lit<, arith, Some, None}
use Rattle.std.proofs.Common.{Option}
use Rattle.std.proofs.Math.Nat.{mul-le-mul_left, mul-div-le, pow-le-pow_right}
use Rattle.std.specs.Prelude.{ℤ, pos, negsuc, ◌-ℤ◌, ◌*ℤ◌, ◌/◌, ◌==◌, nat_lt, nat_le, option_map}
use Rattle.std.proofs.lemmas.Bool.{cases_lt, lt-ltb}
use Rattle.std.proofs.lemmas.Bool.Decides.{nat_tests}
use Rattle.std.proofs.lemmas.Int.{ints}
use Rattle.std.proofs.lemmas.Nat.{le-div}
use Rattle.jsonb_value.specs.declared.number.Number.{Number}
use Rattle.jsonb_value.specs.declared.parser.number.Exponents.{Exponents}
use Rattle.jsonb_value.specs.declared.parser.number.Exponents.TheVariants.{Forbidden, Allowed}
use Rattle.jsonb_value.specs.NumCode.{is_within}
use Rattle.jsonb_value.specs.Json.Numeral.{signed_number, number_of, whole_number, wide_number}
use Rattle.jsonb_value.specs.Json.Numeral.{decimal_number, scaled_number}
use Rattle.jsonb_value.proofs.Json.Exponents.{scale_within, scale_lowered}
use Rattle.jsonb_value.proofs.Json.Tests.{and_true, and_both, by_true, by_false, bool_cases}
use Rattle.jsonb_value.proofs.Json.Tests.{cond_some, chosen, no_error}
use Rattle.json_fault.specs.Scan.{limit, has_room, log10, zeros, at_most, is_between}
use Rattle.json_fault.proofs.Conditions.{less_from, less_test, most_from, most_test}
use Rattle.json_fault.proofs.Powers.{log10_has, power_within, power_some}

-- ---- room for a number

within_is : (b : Bool) (m : ℕ) → m < limit b → is_within 127 (signed_number b m) ≡ true
within_is false m h = less_test _ _ h
within_is true zero h = refl
within_is true (suc m) h = less_test _ _ (omega arith)

wide_is : (k : ℕ) (v : ℤ) → is_within 127 v ≡ true → (n : Number) × (wide_number k v ≡ Some n)
wide_is k v e = (_, by_true _ _ _ _ e refl)

whole_is : (v : ℤ) → is_within 127 v ≡ true → (n : Number) × (whole_number v ≡ Some n)
whole_is (pos m) e = elim (bool_cases (nat_lt m (2 ^ 64))) [
  | inl small ↦ (_, by_true _ _ _ _ small refl)
  | inr large ↦ let is = wide_is 0 (pos m) e in (is.0, by_false _ _ _ _ large is.1)
]
whole_is (negsuc m) e = elim (bool_cases (is_within 63 (negsuc m))) [
  | inl small ↦ (_, by_true _ _ _ _ small refl)
  | inr large ↦ let is = wide_is 0 (negsuc m) e in (is.0, by_false _ _ _ _ large is.1)
]

not_above : (k : ℕ) → k < 256 → nat_lt 255 k ≡ false
not_above k h = grind (arith, nat_tests)

decimal_is : (k : ℕ) (v : ℤ) → k < 256 → is_within 127 v ≡ true → (n : Number)
    × (decimal_number k v ≡ Some n)
decimal_is k v h e = elim (bool_cases (is_within 63 v)) [
  | inl small ↦ (_, by_false _ _ _ _ (not_above k h) (by_true _ _ _ _ small refl))
  | inr large ↦
      let is = wide_is k v e in
      (is.0, by_false _ _ _ _ (not_above k h) (by_false _ _ _ _ large is.1))
]

scaled_is : (k : ℕ) (v : ℤ) → k < 256 → is_within 127 v ≡ true → (n : Number)
    × (number_of k v ≡ Some n)
scaled_is zero v h e = whole_is v e
scaled_is (suc k) v h e = decimal_is (suc k) v h e

pub room_number : (b : Bool) (m k : ℕ) → has_room Forbidden b m k ≡ true → (n : Number)
    × (number_of k (signed_number b m) ≡ Some n)
room_number b m k e =
    let parts = and_true _ _ e in
    scaled_is k (signed_number b m) (less_from _ _ parts.1) (within_is b m (less_from _ _ parts.0))

-- ---- a number that has room

wide_within : (k : ℕ) (v : ℤ) (n : Number) → wide_number k v ≡ Some n → is_within 127 v ≡ true
wide_within k v n e = (cond_some (is_within 127 v) _ _ e).0

narrow_within : (v : ℤ) → is_within 63 v ≡ true → is_within 127 v ≡ true
narrow_within (pos m) e =
    let less = less_from m (2 ^ 63) e in less_test m (2 ^ 127) (omega arith)
narrow_within (negsuc m) e =
    let less = less_from m (2 ^ 63) e in less_test m (2 ^ 127) (omega arith)

whole_within : (v : ℤ) (n : Number) → whole_number v ≡ Some n → is_within 127 v ≡ true
whole_within (pos m) n e = elim (chosen (nat_lt m (2 ^ 64)) _ _ _ e) [
  | inl is ↦ let less = less_from m (2 ^ 64) is.0 in less_test m (2 ^ 127) (omega arith)
  | inr other ↦ wide_within 0 (pos m) n other.1
]
whole_within (negsuc m) n e = elim (chosen (is_within 63 (negsuc m)) _ _ _ e) [
  | inl is ↦ narrow_within (negsuc m) is.0
  | inr other ↦ wide_within 0 (negsuc m) n other.1
]

decimal_within : (k : ℕ) (v : ℤ) (n : Number) → decimal_number k v ≡ Some n
    → is_within 127 v ≡ true
decimal_within k v n e = elim (chosen (nat_lt 255 k) _ _ _ e) [
  | inl large ↦ no_error large.1
  | inr small ↦ elim (chosen (is_within 63 v) _ _ _ small.1) [
    | inl is ↦ narrow_within v is.0
    | inr other ↦ wide_within k v n other.1
  ]
]

number_within : (k : ℕ) (v : ℤ) (n : Number) → number_of k v ≡ Some n → is_within 127 v ≡ true
number_within zero v n e = whole_within v n e
number_within (suc k) v n e = decimal_within (suc k) v n e

small_scale : (k : ℕ) → nat_lt 255 k ≡ false → nat_lt k 256 ≡ true
small_scale k e = grind (arith, nat_tests)

number_scale : (k : ℕ) (v : ℤ) (n : Number) → number_of k v ≡ Some n → nat_lt k 256 ≡ true
number_scale zero v n e = refl
number_scale (suc k) v n e = elim (bool_cases (nat_lt 255 (suc k))) [
  | inl large ↦ no_error (sym (by_true _ _ _ _ large refl) ∙ e)
  | inr small ↦ small_scale (suc k) small
]

larger : (m : ℕ) → nat_lt m (2 ^ 127) ≡ true → nat_lt (suc m) (2 ^ 127 + 1) ≡ true
larger m e = less_test _ _ (let h = less_from _ _ e in omega arith)

signed_within : (b : Bool) (m : ℕ) → is_within 127 (signed_number b m) ≡ true
    → nat_lt m (limit b) ≡ true
signed_within false m e = e
signed_within true zero e = refl
signed_within true (suc m) e = larger m e

pub number_room : (b : Bool) (m k : ℕ) (n : Number) → number_of k (signed_number b m) ≡ Some n
    → has_room Forbidden b m k ≡ true
number_room b m k n e =
    let within = number_within k (signed_number b m) n e in
    and_both _ _ (signed_within b m within) (number_scale k (signed_number b m) n e)

-- what has room without an exponent has it under each rule
pub room_any : (rule : Exponents) (b : Bool) (m k : ℕ) → has_room Forbidden b m k ≡ true
    → has_room rule b m k ≡ true
room_any Forbidden b m k e = e
room_any Allowed b m k e =
    and_both _ _ (and_true (nat_lt m (limit b)) (nat_lt k 256) e).0 refl

-- ---- zeros for which there is room

limit_some : (b : Bool) → 0 < limit b
limit_some true = lit< tt
limit_some false = lit< tt

-- the greatest factor for which there is room
abbrev pub factor : Bool → ℕ → ℕ
factor b m = (limit b - 1) / m

zeros_hold : (b : Bool) (m z : ℕ) → 0 < m → m * 10 ^ z < limit b → z ≤ log10 (factor b m)
zeros_hold b m z some h =
    let one = power_some z in
    let power : 10 ^ z ≤ factor b m = le-div (10 ^ z) (limit b - 1) m some (omega arith) in
    power_within z (log10 (factor b m)) (factor b m) power
    (log10_has (factor b m) (omega arith)).high

zeros_held : (b : Bool) (m z : ℕ) → 0 < m → m < limit b → z ≤ log10 (factor b m)
    → m * 10 ^ z < limit b
zeros_held b m z some h g =
    let one : 1 ≤ factor b m = le-div 1 (limit b - 1) m some (omega arith) in
    let power = (log10_has (factor b m) (omega arith)).low in
    let grown : 10 ^ z ≤ 10 ^ log10 (factor b m) = pow-le-pow_right {n = 10} (lit< tt) g in
    let product : m * 10 ^ z ≤ m * factor b m = mul-le-mul_left m (omega arith) in
    let part : m * factor b m ≤ limit b - 1 = mul-div-le (limit b - 1) m in
    let any = limit_some b in
    omega arith

-- The greatest exponent that the digits have room for.
abbrev pub most : Bool → ℕ → ℕ → Option ℕ
most b m k = option_map (λ count. k + count) (zeros b m)

not_none : (m : ℕ) → (m == 0) ≡ false → 0 < m
not_none m e = grind (arith, nat_tests)

is_not_none : (m : ℕ) → 0 < m → (m == 0) ≡ false
is_not_none m h = grind (arith, nat_tests)

abbrev chosen_most : Bool → ℕ → ℕ → ℕ → Bool
chosen_most t y k z = at_most y (option_map (λ count. k + count) (cond t None (Some z)))

most_fits : (b : Bool) (m k y : ℕ) → 0 < m → at_most y (most b m k) ≡ true
    → y ≤ k + log10 (factor b m)
most_fits b m k y some e =
    most_from y (k + log10 (factor b m))
    (subst (λ (t : Bool). chosen_most t y k (log10 (factor b m)) ≡ true) (is_not_none m some) e)

pub most_is : (b : Bool) (m k y : ℕ) → (0 < m → y ≤ k + log10 (factor b m))
    → at_most y (most b m k) ≡ true
most_is b m k y h = elim (bool_cases (m == 0)) [
  | inl none ↦
      subst (λ (t : Bool). chosen_most t y k (log10 (factor b m)) ≡ true) (sym none) refl
  | inr some ↦
      subst (λ (t : Bool). chosen_most t y k (log10 (factor b m)) ≡ true) (sym some)
      (most_test y (k + log10 (factor b m)) (h (not_none m some)))
]

-- ---- a number with an exponent

signed_product : (b : Bool) (m n : ℕ) → signed_number b m *ℤ pos n ≡ signed_number b (m * n)
signed_product false m n = refl
signed_product true m n = grind (arith, ints)

scale_past : (k y : ℕ) → k < y → pos k -ℤ pos y ≡ negsuc (y - suc k)
scale_past k zero h = absurd (omega arith)
scale_past k (suc y) h = grind (arith, lt-ltb)

past_scale : (b : Bool) (k y m : ℕ) → k < y
    → scaled_number (pos k -ℤ pos y) (signed_number b m)
    ≡ whole_number (signed_number b (m * 10 ^ (y - k)))
past_scale b k y m h =
    let power : suc (y - suc k) ≡ y - k = omega arith in
    rw (scale_past k y h)
    (ap whole_number (signed_product b m (10 ^ suc (y - suc k)))
    ∙ ap (λ z. whole_number (signed_number b (m * 10 ^ z))) power)

more_zeros : (b : Bool) (m k y : ℕ) → m < limit b → k < y → at_most y (most b m k) ≡ true
    → m * 10 ^ (y - k) < limit b
more_zeros b zero k y h past e = let any = limit_some b in omega arith
more_zeros b (suc m) k y h past e =
    let fits = most_fits b (suc m) k y (omega arith) e in
    zeros_held b (suc m) (y - k) (omega arith) h (omega arith)

-- The format holds the number with this exponent, which has a minus or none.
abbrev pub IsHeldWith : Bool → ℕ → ℕ → (is_minus : Bool) → ℕ → Type 0
IsHeldWith b m k is_minus y = (n : Number)
    × (scaled_number (pos k -ℤ signed_number is_minus y) (signed_number b m) ≡ Some n)

pub raised_held : (b : Bool) (m k y : ℕ) → m < limit b
    → is_between y (k - 255) (most b m k) ≡ true → IsHeldWith b m k false y
raised_held b m k y h e =
    let both = and_true _ _ e in
    let least = most_from (k - 255) y both.0 in
    elim (cases_lt k y) [
      | inl past ↦
          let room = more_zeros b m k y h past both.1 in
          let product = m * 10 ^ (y - k) in
          let is = whole_is (signed_number b product) (within_is b product room) in
          (is.0, past_scale b k y m past ∙ is.1)
      | inr within ↦
          let is = room_number b m (k - y)
          (and_both _ _ (less_test m (limit b) h) (less_test (k - y) 256 (omega arith))) in
          (is.0, ap (λ s. scaled_number s (signed_number b m)) (scale_within k y within) ∙ is.1)
    ]

pub held_raised : (b : Bool) (m k y : ℕ) → IsHeldWith b m k false y
    → (m < limit b) × (is_between y (k - 255) (most b m k) ≡ true)
held_raised b m k y held = elim (cases_lt k y) [
  | inl past ↦
      let product = m * 10 ^ (y - k) in
      let worth : whole_number (signed_number b product) ≡ Some held.0 =
      sym (past_scale b k y m past) ∙ held.1 in
      let room = less_from product (limit b)
      (signed_within b product (whole_within (signed_number b product) held.0 worth)) in
      let one : 1 ≤ 10 ^ (y - k) = power_some (y - k) in
      let grown : m * 1 ≤ product = mul-le-mul_left m one in (
        omega arith,
        and_both _ _ (most_test (k - 255) y (omega arith))
            (most_is b m k y (λ some. let fits = zeros_hold b m (y - k) some room in omega arith)),
      )
  | inr within ↦
      let worth : number_of (k - y) (signed_number b m) ≡ Some held.0 =
      ap (λ s. scaled_number s (signed_number b m)) (sym (scale_within k y within)) ∙ held.1 in
      let room = and_true _ _ (number_room b m (k - y) held.0 worth) in
      let scale = less_from (k - y) 256 room.1 in (
        less_from m (limit b) room.0,
        and_both _ _ (most_test (k - 255) y (omega arith)) (most_is b m k y (λ some. omega arith)),
      )
]

pub lowered_held : (b : Bool) (m k y : ℕ) → m < limit b → k < 256
    → is_between y 0 (Some (255 - k)) ≡ true → IsHeldWith b m k true y
lowered_held b m k y h small e =
    let high = most_from y (255 - k) (and_true (nat_le 0 y) (nat_le y (255 - k)) e).1 in
    let is = room_number b m (k + y)
    (and_both _ _ (less_test m (limit b) h) (less_test (k + y) 256 (omega arith))) in
    (is.0, ap (λ s. scaled_number s (signed_number b m)) (scale_lowered k y) ∙ is.1)

pub held_lowered : (b : Bool) (m k y : ℕ) → IsHeldWith b m k true y
    → (m < limit b) × (k < 256) × (is_between y 0 (Some (255 - k)) ≡ true)
held_lowered b m k y held =
    let worth : number_of (k + y) (signed_number b m) ≡ Some held.0 =
    ap (λ s. scaled_number s (signed_number b m)) (sym (scale_lowered k y)) ∙ held.1 in
    let room = and_true _ _ (number_room b m (k + y) held.0 worth) in
    let scale = less_from (k + y) 256 room.1 in (
      less_from m (limit b) room.0,
      omega arith,
      and_both _ _ (most_test 0 y (omega arith)) (most_test y (255 - k) (omega arith)),
    )
