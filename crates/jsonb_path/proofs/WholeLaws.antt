-- Whole numbers below and above a decimal, and sums at the scale of one side.
use Rattle.std.proofs.Common.{◌≡◌, ◌≢◌, ℕ, zero, suc, ◌-◌, ◌*◌, ◌/◌, ◌%◌, ◌^◌, ◌≤◌, sym, ap, ◌∙◌}
use Rattle.std.proofs.Common.{subst, arith, refl, Bool, true, false, ℤ, pos, neg_ℤ, cond, Result}
use Rattle.std.specs.Prelude.{Err, negsuc}
use Rattle.std.proofs.Math.IntN.{*ℤ-one, one}
use Rattle.std.proofs.Math.Nat.{zero-div, zero-mod}
use Rattle.std.proofs.lemmas.Int.{ints}
use Rattle.std.specs.Prelude.{◌+ℤ◌, ◌*ℤ◌, FitsSigned, max, int_rem, not, unsigned_abs}
use Rattle.std.specs.Int.{w128, int_div_euclid}
use Rattle.jsonb_value.specs.declared.number.Number.{Number}
use Rattle.jsonb_value.specs.Fraction.{Fraction}
use Rattle.jsonb_value.specs.Json.Numeral.{signed_number}
use Rattle.jsonb_path.specs.declared.number.Decimal.{Decimal}
use Rattle.jsonb_path.specs.declared.number.NumberError.{NumberError}
use Rattle.jsonb_path.specs.Arithmetic.{GivesExactly, GivesRemainder, common_scale, difference}
use Rattle.jsonb_path.specs.declared.number.NumberError.TheVariants.{DivisionByZero}
use Rattle.jsonb_path.specs.Arithmetic.{negated, number_within, remainder, remainder_within}
use Rattle.jsonb_path.specs.Arithmetic.{sum, unless_zero, value_at}
use Rattle.jsonb_path.specs.Decimal.{decimal_fraction, divided_above}
use Rattle.jsonb_path.proofs.RaisedLaws.{signed_times}

abbrev xor : Bool → Bool → Bool
xor false b = b
xor true b = not b

value_at_own : (x : Fraction) → value_at x.scale x ≡ x.value
unfolding one
value_at_own x =
    let none : x.scale - x.scale ≡ 0 = omega arith in
    ap (λ n. x.value *ℤ pos (10 ^ n)) none ∙ *ℤ-one x.value

-- at the scale of the right side
pub sum_at_right : (x y : Fraction) → x.scale ≤ y.scale
    → sum x y ≡ record { value = value_at y.scale x +ℤ y.value; scale = y.scale }
sum_at_right x y h =
    let e : common_scale x y ≡ y.scale = omega arith in
    (λ i. record { value = value_at (e i) x +ℤ value_at (e i) y; scale = e i })
    ∙ (λ i. record { value = value_at y.scale x +ℤ value_at_own y i; scale = y.scale })

-- at the scale of the left side
pub sum_at_left : (x y : Fraction) → y.scale ≤ x.scale
    → sum x y ≡ record { value = value_at x.scale y +ℤ x.value; scale = x.scale }
sum_at_left x y h =
    let e : common_scale x y ≡ x.scale = omega arith in
    (λ i. record { value = value_at (e i) x +ℤ value_at (e i) y; scale = e i })
    ∙ (λ i. record { value = value_at_own x i +ℤ value_at x.scale y; scale = x.scale })
    ∙ ap (λ v. record { value = v; scale = x.scale }) (omega (arith, ints))

pub floor_of_signed : (b : Bool) (m p : ℕ) → int_div_euclid (signed_number b m) (pos p)
    ≡ signed_number b (cond b (divided_above m p) (m / p))
floor_of_signed false m p = refl
floor_of_signed true zero p = ap pos (zero-div p)
floor_of_signed true (suc k) p = refl

pub ceiling_of_signed : (b : Bool) (m p : ℕ)
    → neg_ℤ (int_div_euclid (neg_ℤ (signed_number b m)) (pos p))
    ≡ signed_number b (cond b (m / p) (divided_above m p))
ceiling_of_signed false zero p = ap (λ n. neg_ℤ (pos n)) (zero-div p)
ceiling_of_signed false (suc k) p = refl
ceiling_of_signed true zero p = refl
ceiling_of_signed true (suc k) p = refl

signed_size : (b : Bool) (m : ℕ) → unsigned_abs (signed_number b m) ≡ m
signed_size false m = refl
signed_size true zero = refl
signed_size true (suc m) = refl

-- the remainder has the sign of the dividend
rest_of_signed : (a b : Bool) (m n : ℕ) → int_rem (signed_number a m) (signed_number b n)
    ≡ signed_number a (m % n)
rest_of_signed false b m n = ap (λ d. pos (m % d)) (signed_size b n)
rest_of_signed true b zero n =
    ap (λ d. pos (zero % d)) (signed_size b n) ∙ ap pos (zero-mod n)
    ∙ ap (λ x. neg_ℤ (pos x)) (sym (zero-mod n))
rest_of_signed true b (suc m) n = ap (λ d. neg_ℤ (pos (suc m % d))) (signed_size b n)

pub rest_of_raised_signed : (a b : Bool) (m n k l : ℕ)
    → int_rem (signed_number a m *ℤ pos k) (signed_number b n *ℤ pos l)
    ≡ signed_number a ((m * k) % (n * l))
rest_of_raised_signed a b m n k l =
    (λ i. int_rem (signed_times a m k i) (signed_times b n l i))
    ∙ rest_of_signed a b (m * k) (n * l)

-- the signs of a product
pub product_of_signed : (a b : Bool) (m n : ℕ)
    → signed_number a m *ℤ signed_number b n ≡ signed_number (xor a b) (m * n)
product_of_signed false false m n = refl
product_of_signed false true m n = grind (arith, ints)
product_of_signed true false m n = grind (arith, ints)
product_of_signed true true m n = grind (arith, ints)

-- a difference is the sum with the other sign
pub difference_is : (x y : Fraction) → sum x (negated y) ≡ difference x y
difference_is x y =
    ap (λ v. record { value = v; scale = common_scale x y }) (grind (arith, ints))

divided_unless_zero : (z : ℤ) (r given : Result Number NumberError) → (z ≢ pos 0 → r ≡ given)
    → (z ≡ pos 0 → r ≡ Err DivisionByZero) → r ≡ unless_zero z given
divided_unless_zero (pos zero) r given f g = g refl
divided_unless_zero (pos (suc n)) r given f g = f (λ e. omega (arith, ints))
divided_unless_zero (negsuc n) r given f g = f (λ e. omega (arith, ints))

pub remainder_is : (x y : Fraction) (r : Result Number NumberError) → GivesRemainder x y r
    → r ≡ remainder_within x y
remainder_is x y r h =
    divided_unless_zero y.value r (number_within (remainder x y)) (λ ne. (h.divided ne).1.number)
    h.by_zero

-- the remainder of two decimals, from that of their digits
pub remainder_given : (l r : Decimal) (rest : ℕ) (result : Result Number NumberError)
    → rest ≡ (l.magnitude * 10 ^ (max l.scale r.scale - l.scale))
    % (r.magnitude * 10 ^ (max l.scale r.scale - r.scale))
    → FitsSigned w128 (signed_number l.is_negative rest) → max l.scale r.scale ≤ 255
    → r.magnitude ≢ 0
    → GivesExactly (record {
      value = signed_number l.is_negative rest;
      scale = max l.scale r.scale;
    }) result
    → GivesRemainder (decimal_fraction l) (decimal_fraction r) result
remainder_given l r rest result is fits scale nonzero given =
    let Fraction_of : ℤ → Fraction = λ v. record { value = v; scale = max l.scale r.scale } in
    let e : Fraction_of (signed_number l.is_negative rest)
    ≡ remainder (decimal_fraction l) (decimal_fraction r) =
    ap (λ n. Fraction_of (signed_number l.is_negative n)) is
    ∙ ap Fraction_of (sym (rest_of_raised_signed l.is_negative r.is_negative l.magnitude r.magnitude
    (10 ^ (max l.scale r.scale - l.scale)) (10 ^ (max l.scale r.scale - r.scale)))) in
    record {
      divided = λ _. (given.range.1 (fits, scale), subst (λ z. GivesExactly z result) e given);
      by_zero = λ z. absurd (nonzero (sym (signed_size r.is_negative r.magnitude)
          ∙ ap unsigned_abs z));
    }
