-- The printed text of a number means a number of the same value, whose payload is no longer.
use Rattle.std.proofs.lemmas.Grind.{common_steps}
use Rattle.std.proofs.Common.{◌≡◌, ℕ, ℤ, zero, suc, pos, negsuc, ◌+◌, ◌/◌, ◌%◌, ◌<◌, ◌≤◌, ◌^◌}
use Rattle.std.proofs.Common.{Bool, true, false, inl, inr, Some, None, refl, ap, ◌∙◌}
use Rattle.std.proofs.Common.{List, [], ◌∷◌, ◌++◌, length, arith, eqb-true, length-append}
use Rattle.std.proofs.Common.{append-nil}
use Rattle.std.specs.Prelude.{◌==◌, decimal, unsigned_abs, FitsSigned}
use Rattle.std.specs.Int.{Width, w64, w128, byte_len, is_negative}
use Rattle.std.specs.Char.{is_ascii_digit, digit_value}
use Rattle.std.proofs.lemmas.Bool.{cases_lt}
use mir.Val.{hbits}
use Rattle.std.proofs.lemmas.Bool.Decides.{nat_tests}
use Rattle.std.specs.Str.Parse.{digits_value, digits_value_after}
use Rattle.std.proofs.lemmas.Fmt.{decimal_by_steps_wide, decimal_is_IsNumeral_wide}
use Rattle.std.proofs.lemmas.Bool.{lt-ltb, le-ltb, le-leb}
use Rattle.jsonb_value.specs.declared.number.Number.{Number}
use Rattle.jsonb_value.specs.declared.number.Number.TheVariants.{Int64, UInt64, Decimal64}
use Rattle.jsonb_value.specs.declared.number.Number.TheVariants.{Decimal128}
use Rattle.jsonb_value.specs.declared.parser.number.Exponents.TheVariants.{Forbidden}
use Rattle.jsonb_value.specs.NumCode.{is_within, shortest_signed, shortest_unsigned}
use Rattle.jsonb_value.specs.NumCode.{decimal_payload, number_payload}
use Rattle.jsonb_value.specs.Order.{fraction_of}
use Rattle.jsonb_value.specs.WellFormed.{IsNumber}
use Rattle.jsonb_value.specs.Text.{front_of, last_digits, decimal_text, number_text}
use Rattle.jsonb_value.specs.Json.Characters.{point, zero_digit, all_digits}
use Rattle.jsonb_value.specs.Json.Numeral.{Numeral, fraction_text, numeral_text, is_whole}
use Rattle.jsonb_value.specs.Json.Numeral.{is_numeral, signed_number, value_without_point}
use Rattle.jsonb_value.specs.Json.Numeral.{wide_number, number_of, numeral_meaning}
use Rattle.jsonb_value.proofs.BigEndian.{length-to_be_bytes}
use Rattle.jsonb_value.proofs.PayloadLaws.{by_test, fits_within}
use Rattle.jsonb_value.proofs.Decimals.{length-last_digits}
use Rattle.jsonb_value.proofs.Json.Exponents.{scaled_plain}
use Rattle.jsonb_value.proofs.Json.Tests.{bool_cases}

-- ---- digits

last_is_digit : (d : ℕ) → d < 10 → is_ascii_digit (48 + d) ≡ true
last_is_digit d h = grind (arith, le-leb)

digit_value-last : (d : ℕ) → d < 10 → digit_value (48 + d) ≡ d
digit_value-last d h = grind (arith, le-ltb, lt-ltb)

-- the first digit is not 0
abbrev leads : List ℕ → Type 0
leads [] = ⊥
leads (d ∷ ds) = (d == zero_digit) ≡ false

all_digits-push : (ds : List ℕ) (x : ℕ) → all_digits ds ≡ true → is_ascii_digit x ≡ true
    → all_digits (ds ++ x ∷ []) ≡ true
all_digits-push [] x all is = grind arith
all_digits-push (d ∷ ds) x all is = grind (arith, all_digits-push ds x)

whole-push : (ds : List ℕ) (x : ℕ) → is_whole ds ≡ true → leads ds → is_ascii_digit x ≡ true
    → (is_whole (ds ++ x ∷ []) ≡ true) × leads (ds ++ x ∷ [])
whole-push ds x e lead is = grind (arith, all_digits-push)

abbrev IsPlainDecimal : ℕ → List ℕ → Type 0
IsPlainDecimal n ds = (is_whole ds ≡ true) × (0 < n → leads ds)

no_zero : (n : ℕ) → 0 < n → (48 + n == zero_digit) ≡ false
no_zero n h = grind (arith, eqb-true)

decimal_is_whole : (n : ℕ) → n < 10 ^ 64 → is_whole (decimal n) ≡ true
decimal_is_whole n h =
    (decimal_by_steps_wide IsPlainDecimal
    (λ n one. (last_is_digit n one, λ some. no_zero n some))
    (λ n ds many front. let grown = whole-push ds (48 + n % 10) front.0 (front.1 (omega arith))
    (last_is_digit (n % 10) (omega arith)) in (grown.0, λ _. grown.1))
    n h).0

all_digits-last : (scale m : ℕ) → all_digits (last_digits scale m) ≡ true
all_digits-last zero m = refl
all_digits-last (suc scale) m =
    grind (arith, all_digits-push, last_is_digit, all_digits-last scale (m / 10))

front_of-le : (scale m : ℕ) → front_of scale m ≤ m
front_of-le zero m = omega arith
front_of-le (suc scale) m = omega (arith, front_of-le scale (m / 10))

value-append : (ds es : List ℕ) (n : ℕ)
    → digits_value_after 10 n (ds ++ es) ≡ digits_value_after 10 (digits_value_after 10 n ds) es
value-append [] es n = refl
value-append (d ∷ ds) es n = value-append ds es _

value_after : (scale m : ℕ) → digits_value_after 10 (front_of scale m) (last_digits scale m) ≡ m
value_after zero m = refl
value_after (suc scale) m =
    grind (arith, value-append, digit_value-last, value_after scale (m / 10))

magnitude-printed : (scale m : ℕ) → m < 10 ^ 64
    → digits_value 10 (decimal (front_of scale m) ++ last_digits scale m) ≡ m
magnitude-printed scale m h =
    let front : front_of scale m < 10 ^ 64 = omega (arith, front_of-le scale m) in
    value-append (decimal (front_of scale m)) (last_digits scale m) 0
    ∙ ap (λ n. digits_value_after 10 n (last_digits scale m))
    (decimal_is_IsNumeral_wide (front_of scale m) front).1
    ∙ value_after scale m

-- ---- numerals

-- the numeral that is printed for a value with this many fraction digits, and for a number
abbrev negative : ℤ → Bool
negative (pos m) = false
negative (negsuc m) = true

abbrev printed_fraction : ℕ → ℤ → Numeral
printed_fraction scale z = record {
  is_negative = negative z;
  whole = decimal
      (front_of scale (unsigned_abs z));
  fraction = last_digits scale (unsigned_abs z);
  exponent = None;
}

abbrev pub printed_number : Number → Numeral
printed_number (Int64 z) = printed_fraction 0 z
printed_number (UInt64 m) = printed_fraction 0 (pos m)
printed_number (Decimal64 d) = printed_fraction d.scale d.value
printed_number (Decimal128 d) = printed_fraction d.scale d.value

not_negative : (m : ℕ) → is_negative (pos m) ≡ false
not_negative m = le-ltb m 0 (omega arith)

signed-size : (z : ℤ) → signed_number (negative z) (unsigned_abs z) ≡ z
signed-size z = grind arith

printed_proper : (scale : ℕ) (z : ℤ) → unsigned_abs z < 10 ^ 64
    → is_numeral Forbidden (printed_fraction scale z) ≡ true
printed_proper scale z fits = grind (arith, decimal_is_whole, front_of-le, all_digits-last)

fraction_meaning : (scale : ℕ) (z : ℤ) → unsigned_abs z < 10 ^ 64
    → numeral_meaning Forbidden (printed_fraction scale z) ≡ number_of scale z
fraction_meaning scale z fits =
    let n = printed_fraction scale z in
    let digits : value_without_point n ≡ z =
    ap (signed_number (negative z)) (magnitude-printed scale (unsigned_abs z) fits)
    ∙ signed-size z in
    rw (printed_proper scale z fits)
    (scaled_plain (length n.fraction) (value_without_point n)
    ∙ ap (λ k. number_of k (value_without_point n)) (length-last_digits scale (unsigned_abs z))
    ∙ ap (number_of scale) digits)

-- ---- the lengths of payloads

abbrev most : ℕ → List ℕ → Type 0
most k bs = length bs ≤ k

shortest_unsigned-8 : (n : ℕ) → most 8 (shortest_unsigned n)
shortest_unsigned-8 n = grind (arith, by_test, length-to_be_bytes)

-- an unsigned payload is no longer than the signed one of the same value
unsigned_shorter : (n : ℕ) → length (shortest_unsigned n) ≤ length (shortest_signed (pos n))
unsigned_shorter n = grind (arith, nat_tests, length-to_be_bytes)

shortest_signed-8 : (v : ℤ) → most 8 (shortest_signed v)
shortest_signed-8 v = grind (arith, by_test, length-to_be_bytes)

uint_payload-9 : (n : ℕ) → length (number_payload (UInt64 n)) ≤ 9
uint_payload-9 n = grind (arith, shortest_unsigned-8)

uint_payload-shorter : (n : ℕ)
    → length (number_payload (UInt64 n)) ≤ length (number_payload (Int64 (pos n)))
uint_payload-shorter n = grind (arith, unsigned_shorter)

int_payload-9 : (n : ℕ) → length (number_payload (Int64 (negsuc n))) ≤ 9
int_payload-9 n = grind (arith, shortest_signed-8)

length-decimal : (w : Width) (v : ℤ) (s : ℕ) → length (decimal_payload w v s) ≡ byte_len w + 2
length-decimal w v s = grind (arith, length-to_be_bytes, length-append)

-- ---- numbers

-- The printed number means a number of the same value, within its type and with a payload no
-- longer.
pub record RereadNumber (x : Number) : Type 0 where
  pub number : Number
  pub is_meant : numeral_meaning Forbidden (printed_number x) ≡ Some number
  pub is_worth : fraction_of number ≡ fraction_of x
  pub is_number : IsNumber number
  pub is_short : length (number_payload number) ≤ length (number_payload x)

few_digits : (v : ℤ) → FitsSigned w128 v → unsigned_abs v < 10 ^ 64
few_digits v h = grind arith

-- a number without a point, not negative and negative
as_unsigned : (x : Number) (m : ℕ) → m < 2 ^ 64
    → numeral_meaning Forbidden (printed_number x) ≡ number_of 0 (pos m)
    → fraction_of (UInt64 m) ≡ fraction_of x
    → length (number_payload (UInt64 m)) ≤ length (number_payload x) → RereadNumber x
as_unsigned x m small means worth short = record {
  number = UInt64 m;
  is_meant = grind (arith, nat_tests);
  is_worth = worth;
  is_number = small;
  is_short = short;
}

as_signed : (x : Number) (m : ℕ) → m < 2 ^ 63
    → numeral_meaning Forbidden (printed_number x) ≡ number_of 0 (negsuc m)
    → fraction_of (Int64 (negsuc m)) ≡ fraction_of x
    → length (number_payload (Int64 (negsuc m))) ≤ length (number_payload x) → RereadNumber x
as_signed x m small means worth short = record {
  number = Int64 (negsuc m);
  is_meant = grind (arith, nat_tests);
  is_worth = worth;
  is_number = record { sfits = small };
  is_short = short;
}

is_within-fits : (w : Width) (v : ℤ) → FitsSigned w v → is_within (hbits w) v ≡ true
is_within-fits w v h = grind (arith, lt-ltb)

-- a number with a point, of 64 bits
as_decimal : (x : Number) (s : ℕ) (v : ℤ) → FitsSigned w64 v → suc s < 2 ^ 8
    → numeral_meaning Forbidden (printed_number x) ≡ number_of (suc s) v
    → fraction_of (Decimal64 (record { scale = suc s; value = v })) ≡ fraction_of x
    → 10 ≤ length (number_payload x) → RereadNumber x
as_decimal x s v fits small means worth short = record {
  number = Decimal64 (record { scale = suc s; value = v });
  is_meant = grind (arith, nat_tests, is_within-fits w64 v fits);
  is_worth = worth;
  is_number = (fits, small);
  is_short = grind (arith, length-decimal);
}

reread_64 : (scale : ℕ) (v : ℤ) → FitsSigned w64 v → scale < 2 ^ 8
    → RereadNumber (Decimal64 (record { scale = scale; value = v }))
reread_64 zero (pos m) h small = as_unsigned _ m (grind arith)
    (fraction_meaning 0 (pos m) (grind arith)) refl (grind (arith, uint_payload-9, length-decimal))
reread_64 zero (negsuc m) h small = as_signed _ m (grind arith)
    (fraction_meaning 0 (negsuc m) (grind arith)) refl
    (grind (arith, int_payload-9, length-decimal))
reread_64 (suc s) v h small = as_decimal _ s v h small
    (fraction_meaning (suc s) v (few_digits v (grind arith))) refl (grind (arith, length-decimal))

-- a decimal of 128 bits may be read as any narrower number
wide_itself : (scale : ℕ) (v : ℤ) → FitsSigned w128 v → scale < 2 ^ 8
    → numeral_meaning Forbidden (printed_fraction scale v) ≡ wide_number scale v
    → RereadNumber (Decimal128 (record { scale = scale; value = v }))
wide_itself scale v h small e = grind (arith, is_within-fits w128 v h)

reread_128 : (scale : ℕ) (v : ℤ) → FitsSigned w128 v → scale < 2 ^ 8
    → RereadNumber (Decimal128 (record { scale = scale; value = v }))
reread_128 zero (pos m) h small =
    let means = fraction_meaning 0 (pos m) (few_digits (pos m) h) in
    elim (cases_lt m (2 ^ 64)) [
      | inl is ↦ as_unsigned _ m is means refl (grind (arith, uint_payload-9, length-decimal))
      | inr other ↦ wide_itself 0 (pos m) h small (grind (arith, nat_tests))
    ]
reread_128 zero (negsuc m) h small =
    let means = fraction_meaning 0 (negsuc m) (few_digits (negsuc m) h) in
    elim (cases_lt m (2 ^ 63)) [
      | inl is ↦ as_signed _ m is means refl (grind (arith, int_payload-9, length-decimal))
      | inr other ↦ wide_itself 0 (negsuc m) h small (grind (arith, nat_tests))
    ]
reread_128 (suc s) v h small =
    let means = fraction_meaning (suc s) v (few_digits v h) in
    elim (bool_cases (is_within 63 v)) [
      | inl is ↦ as_decimal _ s v (fits_within w64 v is) small means refl (grind (
        arith,
        length-decimal,
      ))
      | inr other ↦ wide_itself (suc s) v h small (grind (arith, nat_tests))
    ]

pub reread : (x : Number) → IsNumber x → RereadNumber x
reread (Int64 (pos m)) h = as_unsigned _ m (grind arith)
    (fraction_meaning 0 (pos m) (grind arith)) refl (uint_payload-shorter m)
reread (Int64 (negsuc m)) h =
    as_signed _ m h.sfits (fraction_meaning 0 (negsuc m) (grind arith)) refl (omega arith)
reread (UInt64 m) h =
    as_unsigned _ m h (fraction_meaning 0 (pos m) (omega arith)) refl (omega arith)
reread (Decimal64 d) h = reread_64 d.scale d.value h.0 h.1
reread (Decimal128 d) h = reread_128 d.scale d.value h.0 h.1

-- ---- the text

fraction_text-some : (ds : List ℕ) → 0 < length ds → fraction_text ds ≡ point ∷ ds
fraction_text-some ds h = grind arith

decimal_spelled : (scale : ℕ) (v : ℤ)
    → decimal_text scale v ≡ numeral_text (printed_fraction scale v)
decimal_spelled scale v =
    grind (arith, common_steps, append-nil, not_negative, fraction_text-some, length-last_digits)

-- The printed text is the text of the numeral.
pub number_spelled : (x : Number) → number_text x ≡ numeral_text (printed_number x)
number_spelled x = grind (arith, common_steps, decimal_spelled)
