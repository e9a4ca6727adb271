-- Numbers by their scale, their exponent and their value without the point.
use Rattle.std.proofs.Common.{◌≡◌, ℕ, zero, suc, ◌+◌, ◌-◌, ◌*◌, ◌^◌, ◌<◌, ◌≤◌, Bool, true, false}
use Rattle.std.proofs.Common.{inl, inr, ◌⊎◌, refl, sym, ap, ◌∙◌, lit<, lit≤, arith, Option}
use Rattle.std.proofs.Common.{Some, None, ◌++◌, length, append-nil}
use Rattle.std.proofs.Math.Nat.{pow-le-pow_right, one-le-pow, mul-le-mul}
use Rattle.std.specs.Prelude.{ℤ, pos, negsuc, ◌-ℤ◌, ◌*ℤ◌, ◌&&◌, nat_lt}
use Rattle.std.specs.Option.{unwrap_or}
use Rattle.std.proofs.lemmas.Bool.{lt-ltb, le-ltb, ltb-false}
use Rattle.std.proofs.lemmas.Int.{ints}
use Rattle.jsonb_value.specs.declared.number.Number.{Number}
use Rattle.jsonb_value.specs.declared.parser.number.Exponents.TheVariants.{Forbidden}
use Rattle.jsonb_value.specs.declared.parser.number.Integer.{Integer}
use Rattle.jsonb_value.specs.NumCode.{is_within}
use Rattle.jsonb_value.specs.Json.Characters.{all_digits}
use Rattle.jsonb_value.specs.Json.Numeral.{Numeral, Exponent, sign_text, fraction_text}
use Rattle.jsonb_value.specs.Json.Numeral.{numeral_text, is_whole, is_exponent, is_numeral}
use Rattle.jsonb_value.specs.Json.Numeral.{signed_number, number_of, whole_number, wide_number}
use Rattle.jsonb_value.specs.Json.Numeral.{decimal_number, value_without_point, exponent_value}
use Rattle.jsonb_value.specs.Json.Numeral.{scaled_number, numeral_meaning}
use Rattle.jsonb_value.specs.Reader.Digits.{IsCounted, HasInteger}
use Rattle.jsonb_value.proofs.Json.Tests.{and_true, by_false, cond_some}

-- ---- past 128 bits

pub power_large : (n : ℕ) → 128 ≤ n → 2 ^ 128 ≤ 10 ^ n
power_large n h =
    let base : 2 ^ 128 ≤ 10 ^ 128 = lit≤ tt in
    let more : 10 ^ 128 ≤ 10 ^ n = pow-le-pow_right {n = 10} (lit< tt) h in
    omega (arith, base, more)

pub product_large : (m n : ℕ) → 0 < m → 2 ^ 128 ≤ n → 2 ^ 128 ≤ m * n
product_large m n some large =
    let more : 1 * n ≤ m * n = mul-le-mul (omega arith) (omega arith) in
    omega (arith, more)

pub within_large : (b : Bool) (m : ℕ) → 2 ^ 128 ≤ m → is_within 127 (signed_number b m) ≡ false
within_large b m large = grind (arith, le-ltb)

within_narrow : (v : ℤ) → is_within 127 v ≡ false → is_within 63 v ≡ false
within_narrow v e = grind (arith, ltb-false, le-ltb)

wide_large : (scale : ℕ) (v : ℤ) → is_within 127 v ≡ false → wide_number scale v ≡ None
wide_large scale v e = by_false _ _ _ _ e refl

whole_large : (v : ℤ) → is_within 127 v ≡ false → whole_number v ≡ None
whole_large v e = grind (arith, ltb-false, le-ltb, wide_large, within_narrow)

decimal_large : (scale : ℕ) (v : ℤ) → is_within 127 v ≡ false → (t : Bool) → nat_lt 255 scale ≡ t
    → decimal_number scale v ≡ None
decimal_large scale v e t is = grind (arith, within_narrow, wide_large)

-- beyond 128 bits there is no number
pub number_large : (scale : ℕ) (v : ℤ) → is_within 127 v ≡ false → number_of scale v ≡ None
number_large scale v e = grind (arith, whole_large, decimal_large)

within_product : (v : ℤ) (n : ℕ) → 0 < n → is_within 127 v ≡ false
    → is_within 127 (v *ℤ pos n) ≡ false
within_product (pos m) n some e =
    let more : m * 1 ≤ m * n = mul-le-mul (omega arith) (omega arith) in
    grind (arith, more, ltb-false, le-ltb)
within_product (negsuc m) n some e =
    let more : suc m * 1 ≤ suc m * n = mul-le-mul (omega arith) (omega arith) in
    grind (arith, more, ints, ltb-false, le-ltb)

pub scaled_large : (scale v : ℤ) → is_within 127 v ≡ false → scaled_number scale v ≡ None
scaled_large (pos scale) v e = number_large scale v e
scaled_large (negsuc n) v e =
    whole_large (v *ℤ pos (10 ^ suc n))
    (within_product v (10 ^ suc n) (one-le-pow (suc n) 10 (lit< tt)) e)

-- ---- the scale

-- without an exponent
pub scaled_plain : (f : ℕ) (v : ℤ) → scaled_number (pos f -ℤ pos 0) v ≡ number_of f v
scaled_plain f v = let same : f + 0 ≡ f = omega arith in ap (λ k. number_of k v) same

pub scale_lowered : (f n : ℕ) → pos f -ℤ signed_number true n ≡ pos (f + n)
scale_lowered f zero = refl
scale_lowered f (suc n) = refl

pub scale_within : (f n : ℕ) → n ≤ f → pos f -ℤ pos n ≡ pos (f - n)
scale_within f zero h = ap pos (omega arith)
scale_within f (suc n) h = grind (arith, le-ltb)

scale_past : (f n : ℕ) → f < n → pos f -ℤ pos n ≡ negsuc (n - suc f)
scale_past f zero h = absurd (omega arith)
scale_past f (suc n) h = grind (arith, lt-ltb)

-- the sign moves out of a product
signed_product : (b : Bool) (m n : ℕ) → signed_number b m *ℤ pos n ≡ signed_number b (m * n)
signed_product false m n = refl
signed_product true m n = grind (arith, ints)

-- the exponent exceeds the count of fraction digits
scaled_past : (b : Bool) (f n m : ℕ) → f < n
    → scaled_number (pos f -ℤ pos n) (signed_number b m)
    ≡ whole_number (signed_number b (m * 10 ^ (n - f)))
scaled_past b f n m h =
    let power : suc (n - suc f) ≡ n - f = omega arith in
    rw (scale_past f n h)
    (ap whole_number (signed_product b m (10 ^ suc (n - suc f)))
    ∙ ap (λ k. whole_number (signed_number b (m * 10 ^ k))) power)

-- ---- a count of 128 bits in place of an exponent

-- The count has the effect of the exponent: it is the exponent, or both are large.
abbrev Stands : ℕ → ℕ → Type 0
Stands n raised = (raised ≡ n) ⊎ ((2 ^ 128 ≤ n) × (2 ^ 128 ≤ raised + 1))

stands : (n raised : ℕ) (o : Option ℕ) → IsCounted n o → raised ≡ unwrap_or o (2 ^ 128 - 1)
    → Stands n raised
stands n raised None counts e = inr (omega arith, omega arith)
stands n raised (Some x) counts e = inl (e ∙ counts.1)

product_stands : (m f n raised : ℕ) → Stands n raised → f < 2 ^ 64 → f < raised
    → 2 ^ 128 ≤ m * 10 ^ (raised - f) → 2 ^ 128 ≤ m * 10 ^ (n - f)
product_stands m f n raised (inl same) small past large = rw (← same) large
product_stands zero f n raised (inr both) small past large = absurd (omega arith)
product_stands (suc m) f n raised (inr both) small past large =
    product_large (suc m) (10 ^ (n - f)) (omega arith) (power_large (n - f) (omega arith))

product_same : (m f n raised : ℕ) → Stands n raised → f < 2 ^ 64 → f < raised
    → m * 10 ^ (raised - f) < 2 ^ 128 → m * 10 ^ (raised - f) ≡ m * 10 ^ (n - f)
product_same m f n raised (inl same) small past few = rw same refl
product_same zero f n raised (inr both) small past few = omega arith
product_same (suc m) f n raised (inr both) small past few =
    let large = product_large (suc m) (10 ^ (raised - f)) (omega arith)
    (power_large (raised - f) (omega arith)) in
    absurd (omega arith)

past_exponent : (f n raised : ℕ) → Stands n raised → f < 2 ^ 64 → f < raised → f < n
past_exponent f n raised (inl same) small past = omega arith
past_exponent f n raised (inr both) small past = omega arith

module _ (b : Bool) (z : ℤ) (f m raised : ℕ) (exponent : Integer) (is : HasInteger z exponent)
    (positive : exponent.is_negative ≡ false) (small : f < 2 ^ 64)
    (e : raised ≡ unwrap_or exponent.magnitude (2 ^ 128 - 1)) (past : f < raised) where
  both : Stands is.magnitude raised
  both = stands is.magnitude raised exponent.magnitude is.is_counted e

  whole_at : scaled_number (pos f -ℤ z) (signed_number b m)
      ≡ whole_number (signed_number b (m * 10 ^ (is.magnitude - f)))
  whole_at =
      let value : z ≡ pos is.magnitude =
      is.is_value ∙ ap (λ s. signed_number s is.magnitude) positive in
      ap (λ x. scaled_number (pos f -ℤ x) (signed_number b m)) value
      ∙ scaled_past b f is.magnitude m (past_exponent f is.magnitude raised both small past)

  -- the whole number is past 128 bits
  pub past_refused : ¬ (m * 10 ^ (raised - f) < 2 ^ 128)
      → scaled_number (pos f -ℤ z) (signed_number b m) ≡ None
  past_refused large =
      let product = m * 10 ^ (is.magnitude - f) in
      whole_at ∙ whole_large (signed_number b product) (within_large b product
      (product_stands m f is.magnitude raised both small past (omega arith)))

  pub past_found : (r : ℕ) → m * 10 ^ (raised - f) < 2 ^ 128 → r ≡ m * 10 ^ (raised - f)
      → scaled_number (pos f -ℤ z) (signed_number b m) ≡ whole_number (signed_number b r)
  past_found r few found =
      whole_at ∙ ap (λ k. whole_number (signed_number b k))
      (sym (found ∙ product_same m f is.magnitude raised both small past few))

-- ---- where exponents are forbidden

no_exponent : (x : Option Exponent) → is_exponent Forbidden x ≡ true → x ≡ None
no_exponent None e = refl
no_exponent (Some x) e = absurd (let h : ⊥ = cc in h)

-- The numeral has no exponent and means the number.
pub record WithoutExponent (n : Numeral) (x : Number) : Type 0 where
  pub is_whole_part : is_whole n.whole ≡ true
  pub is_fraction : all_digits n.fraction ≡ true
  pub is_spelled : numeral_text n
      ≡ sign_text n.is_negative ++ (n.whole ++ fraction_text n.fraction)
  pub is_number : number_of (length n.fraction) (value_without_point n) ≡ Some x

pub without_exponent : (n : Numeral) (x : Number) → numeral_meaning Forbidden n ≡ Some x
    → WithoutExponent n x
without_exponent n x e =
    let parts = cond_some (is_numeral Forbidden n) _ x e in
    let proper = and_true (is_whole n.whole && all_digits n.fraction)
    (is_exponent Forbidden n.exponent) parts.0 in
    let digits = and_true (is_whole n.whole) (all_digits n.fraction) proper.0 in
    let none = no_exponent n.exponent proper.1 in
    let scale = pos (length n.fraction) in
    record {
      is_whole_part = digits.0;
      is_fraction = digits.1;
      is_spelled = rw (none, append-nil) refl;
      is_number = sym (scaled_plain (length n.fraction) (value_without_point n))
          ∙ ap (λ y. scaled_number (scale -ℤ exponent_value y) (value_without_point n)) (sym none)
          ∙ parts.1;
    }
