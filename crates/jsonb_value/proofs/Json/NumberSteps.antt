-- Steps of reading a number.
use Rattle.std.proofs.Common.{◌≡◌, ℕ, ◌^◌, ◌≤◌, ◌<◌, ap, Bool, true, false, eqb-true, lit<}
use Rattle.std.proofs.Common.{refl, sym, ◌∙◌, List, [], ◌∷◌, length, arith, Option, Some}
use Rattle.std.proofs.Common.{None}
use Rattle.std.specs.Prelude.{◌==◌, ◌≢◌, ℤ, pos, ◌-ℤ◌, IsTrue, SomeIff}
use Rattle.std.specs.Char.{is_ascii_digit}
use Rattle.std.specs.Int.{w128}
use Rattle.std.proofs.lemmas.Int.{to_z-of_z}
use mir.Val.{SFits, of_z, to_z}
use Rattle.std.specs.Str.Parse.{digits_value, digits_value_after}
use Rattle.jsonb_value.specs.Json.Bind.{◌>>=◌}
use Rattle.jsonb_value.specs.declared.parser.number.Digits.{Digits}
use Rattle.jsonb_value.specs.declared.parser.number.short.ShortDigits.{ShortDigits}
use Rattle.jsonb_value.specs.declared.parser.number.Exponents.{Exponents}
use Rattle.jsonb_value.specs.declared.parser.number.Integer.{Integer}
use Rattle.jsonb_value.specs.Reader.Digits.{IsCounted, AreDigits, HasInteger, IsShort}
use Rattle.jsonb_value.proofs.Json.DigitLaws.{digits_value_after-append}
use Rattle.jsonb_value.specs.declared.number.Number.{Number}
use Rattle.jsonb_value.specs.Json.Characters.{zero_digit}
use Rattle.jsonb_value.specs.Json.Numeral.{signed_number, number_of, scaled_number}
use Rattle.jsonb_value.specs.NumCode.{is_within}
use Rattle.jsonb_value.specs.Reader.Reading.{read_sign, read_whole, read_fraction, read_number}
use Rattle.jsonb_value.specs.Reader.Reading.{front_digits, after_digits, some_digits}
use Rattle.jsonb_value.specs.Reader.Reading.{read_either_sign, read_integer, read_exponent}
use Rattle.jsonb_value.proofs.Json.Exponents.{within_large, number_large, scaled_large}
use Rattle.jsonb_value.proofs.Json.Exponents.{scaled_plain}
use Rattle.jsonb_value.proofs.Json.Tests.{no_error}

pub whole_zero : (s rest : List ℕ) (c : ℕ) → s ≡ c ∷ rest → is_ascii_digit c ≡ true → c ≡ zero_digit
    → read_whole s ≡ Some (c ∷ [], rest)
whole_zero s rest c is digit none = grind arith

no_zero : (c : ℕ) → c ≢ zero_digit → (c == zero_digit) ≡ false
no_zero c other = grind (arith, eqb-true)

pub whole_more : (s rest : List ℕ) (c : ℕ) → s ≡ c ∷ rest → is_ascii_digit c ≡ true → c ≢ zero_digit
    → read_whole s ≡ Some (c ∷ front_digits rest, after_digits rest)
whole_more s rest c is digit other = grind (arith, no_zero)

-- digits, after a sign or none
integer_digits : (s : List ℕ) → length (front_digits s) ≢ 0
    → some_digits s ≡ Some (front_digits s, after_digits s)
integer_digits s some = grind arith

pub integer_read : (s s1 rest : List ℕ) (b : Bool) (digits : Digits) → (b, s1) ≡ read_either_sign s
    → AreDigits 0 (front_digits s1) digits → digits.count ≢ 0 → rest ≡ after_digits s1
    → (z : ℤ) × (read_integer s ≡ Some (z, rest))
    × HasInteger z (record { is_negative = b; magnitude = digits.value })
integer_read s s1 rest b digits sign are some end = (
  signed_number b (digits_value 10 (front_digits s1)),
  grind (arith, integer_digits),
  record { magnitude = digits_value 10 (front_digits s1); is_counted = are.value; is_value = refl },
)

-- an exponent that is forbidden or not there means 0
abbrev pub HasNoExponent : Exponents → List ℕ → Type 0
HasNoExponent rule s = (z : ℤ) × (read_exponent rule s ≡ Some (z, s))
    × HasInteger z (record { is_negative = false; magnitude = Some 0 })

pub no_exponent : (rule : Exponents) (s : List ℕ) → read_exponent rule s ≡ Some (pos 0, s)
    → HasNoExponent rule s
no_exponent rule s e =
    (pos 0, e, record { magnitude = 0; is_counted = (lit< tt, refl); is_value = refl })

-- the steps of reading, up to the number's meaning
pub number_found : (rule : Exponents) (s s1 w s2 f s3 s4 : List ℕ) (b : Bool) (z : ℤ)
    (r : Option Number) → (b, s1) ≡ read_sign s → read_whole s1 ≡ Some (w, s2)
    → read_fraction s2 ≡ Some (f, s3) → read_exponent rule s3 ≡ Some (z, s4)
    → scaled_number (pos (length f) -ℤ z)
    (signed_number b (digits_value_after 10 (digits_value 10 w) f)) ≡ r
    → read_number rule s ≡ (r >>= λ n. Some (n, s4))
number_found rule s s1 w s2 f s3 s4 b z r sign whole fraction exponent value =
    grind (arith, digits_value_after-append)

-- a short number without an exponent
module _ (rule : Exponents) (s s1 s2 s3 : List ℕ) (b : Bool) (m : ℕ) (digits : ShortDigits)
    (x : Number) where
  pub short_found : (b, s1) ≡ read_sign s
      → (ds : List ℕ) × (read_whole s1 ≡ Some (ds, s2)) × (m ≡ digits_value 10 ds) × (m < 10 ^ 18)
      → (ds : List ℕ) × (read_fraction s2 ≡ Some (ds, s3)) × IsShort digits m ds
      → read_exponent rule s3 ≡ Some (pos 0, s3)
      → number_of digits.count (signed_number b digits.value) ≡ Some x
      → read_number rule s ≡ Some (x, s3)
  short_found sign whole part none value =
      number_found rule s s1 whole.0 s2 part.0 s3 s3 b (pos 0) (Some x) sign whole.1 part.1 none
      (ap (λ n. scaled_number (pos (length part.0) -ℤ pos 0)
      (signed_number b (digits_value_after 10 n part.0))) (sym whole.2)
      ∙ ap (λ n. scaled_number (pos (length part.0) -ℤ pos 0) (signed_number b n))
      (sym part.2.value)
      ∙ ap (λ n. scaled_number (pos n -ℤ pos 0) (signed_number b digits.value)) (sym part.2.count)
      ∙ scaled_plain digits.count (signed_number b digits.value) ∙ value)

no_test : (b : Bool) → (IsTrue b → ⊥) → b ≡ false
no_test b h = grind arith

counted_none : (n : ℕ) (o : Option ℕ) → IsCounted n o → o ≡ None → 2 ^ 128 ≤ n
counted_none n o h e = grind arith

counted_some : (n m : ℕ) (o : Option ℕ) → IsCounted n o → o ≡ Some m → n ≡ m
counted_some n m o h e = grind arith

-- the results of the code's steps
pub record HasParts (rule : Exponents) (s s4 : List ℕ) (b : Bool) (digits : Digits)
    (exponent : Integer) : Type 0 where
  pub s1 : List ℕ
  pub s2 : List ℕ
  pub s3 : List ℕ
  pub whole : List ℕ
  pub fraction : List ℕ
  pub z : ℤ
  pub is_sign : (b, s1) ≡ read_sign s
  pub is_whole : read_whole s1 ≡ Some (whole, s2)
  pub is_fraction : read_fraction s2 ≡ Some (fraction, s3)
  pub are_digits : AreDigits (digits_value 10 whole) fraction digits
  pub is_exponent : read_exponent rule s3 ≡ Some (z, s4)
  pub is_integer : HasInteger z exponent

pub has_parts : (rule : Exponents) (s s1 s2 s3 s4 : List ℕ) (b : Bool) (o : Option ℕ)
    (digits : Digits) (exponent : Integer) → (b, s1) ≡ read_sign s
    → (whole : (ds : List ℕ) × (read_whole s1 ≡ Some (ds, s2)) × IsCounted (digits_value 10 ds) o)
    → ((n : ℕ) → IsCounted n o → (ds : List ℕ) × (read_fraction s2 ≡ Some (ds, s3))
    × AreDigits n ds digits)
    → (read : (z : ℤ) × (read_exponent rule s3 ≡ Some (z, s4)) × HasInteger z exponent)
    → HasParts rule s s4 b digits exponent
has_parts rule s s1 s2 s3 s4 b o digits exponent sign whole fraction read =
    let part = fraction (digits_value 10 whole.0) whole.2 in
    record {
      s1 = s1;
      s2 = s2;
      s3 = s3;
      whole = whole.0;
      fraction = part.0;
      z = read.0;
      is_sign = sign;
      is_whole = whole.1;
      is_fraction = part.1;
      are_digits = part.2;
      is_exponent = read.1;
      is_integer = read.2;
    }

module _ (rule : Exponents) (s s4 : List ℕ) (b : Bool) (digits : Digits) (exponent : Integer)
    (parts : HasParts rule s s4 b digits exponent) where
  pub number_too_large : digits.value ≡ None → read_number rule s ≡ None
  number_too_large none =
      let value = digits_value_after 10 (digits_value 10 parts.whole) parts.fraction in
      let large = counted_none value digits.value parts.are_digits.value none in
      number_found rule s parts.s1 parts.whole parts.s2 parts.fraction parts.s3 s4 b parts.z
      None parts.is_sign parts.is_whole parts.is_fraction parts.is_exponent
      (scaled_large (pos (length parts.fraction) -ℤ parts.z) (signed_number b value)
      (within_large b value large))

  -- the number computed from the parts
  number_by_value : (m : ℕ) (r : Option Number) → digits.value ≡ Some m
      → scaled_number (pos digits.count -ℤ parts.z) (signed_number b m) ≡ r
      → read_number rule s ≡ (r >>= λ n. Some (n, s4))
  number_by_value m r some value = grind (arith, counted_some, number_found)

  pub number_past_scale : (m : ℕ) → digits.value ≡ Some m
      → scaled_number (pos digits.count -ℤ parts.z) (signed_number b m) ≡ None
      → read_number rule s ≡ None
  number_past_scale m some none = number_by_value m None some none

  pub number_out_of_range : (m scale k : ℕ) (o : Option ℤ) → digits.value ≡ Some m
      → scaled_number (pos digits.count -ℤ parts.z) (signed_number b m)
      ≡ number_of scale (signed_number b k)
      → SomeIff o (IsTrue (is_within 127 (signed_number b k))) (signed_number b k) → o ≡ None
      → read_number rule s ≡ None
  number_out_of_range m scale k None some same none e =
      number_by_value m None some
      (same ∙ number_large scale (signed_number b k) (no_test _ none))
  number_out_of_range m scale k (Some v) some same is e = no_error (sym e)

  pub number_of_parts : (m scale k : ℕ) (o : Option ℤ) (v : ℤ) (r : Option Number)
      → digits.value ≡ Some m
      → scaled_number (pos digits.count -ℤ parts.z) (signed_number b m)
      ≡ number_of scale (signed_number b k)
      → SomeIff o (IsTrue (is_within 127 (signed_number b k))) (signed_number b k) → o ≡ Some v
      → r ≡ number_of scale (to_z w128 (of_z w128 v)) → SFits w128 v
      → read_number rule s ≡ (r >>= λ n. Some (n, s4))
  number_of_parts m scale k o v r some same none e is fits =
      number_by_value m r some (grind (arith, to_z-of_z))
