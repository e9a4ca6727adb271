-- Counts and values of digits.
use Rattle.std.proofs.Common.{◌≡◌, ℕ, ◌+◌, ◌^◌, ◌<◌, ◌≤◌, true, false, refl, List, [], ◌∷◌, ◌++◌}
use Rattle.std.proofs.Common.{length, arith, chars, ap, sym, ◌∙◌}
use Rattle.std.specs.Prelude.{IsUtf8}
use Rattle.std.specs.Char.{is_ascii_digit}
use Rattle.std.specs.Str.Parse.{digits_value_after}
use Rattle.std.proofs.lemmas.Str.{encodes-chars, length-le-encodes}
use Rattle.jsonb_value.specs.declared.parser.number.short.ShortDigits.{ShortDigits}
use Rattle.jsonb_value.specs.Reader.Digits.{IsShort}
use Rattle.jsonb_value.specs.Reader.Reading.{front_digits, after_digits}

front_digits-le : (s : List ℕ) → length (front_digits s) ≤ length s
front_digits-le [] = omega arith
front_digits-le (c ∷ s) = grind (arith, front_digits-le s)

length-chars-le : (bytes : List ℕ) → IsUtf8 bytes → length (chars bytes) ≤ length bytes
length-chars-le bytes utf8 = grind (arith, length-le-encodes, encodes-chars)

-- one more digit is still inside the text
pub digit_fits : (text s : List ℕ) (count c : ℕ) (after : List ℕ) → IsUtf8 text
    → count + length (front_digits s) ≡ length (front_digits (chars text)) → s ≡ c ∷ after
    → is_ascii_digit c ≡ true → count + 1 ≤ length text
digit_fits text s count c after utf8 total is digit =
    grind (arith, front_digits-le, length-chars-le)

pub no_digits : (s : List ℕ)
    → ((c : ℕ) (more : List ℕ) → s ≡ c ∷ more → is_ascii_digit c ≡ false)
    → (front_digits s ≡ []) × (after_digits s ≡ s)
no_digits [] other = (refl, refl)
no_digits (c ∷ s) other = rw (other c s refl) (refl, refl)

pub great_no_digit : (c : ℕ) → 128 ≤ c → is_ascii_digit c ≡ false
great_no_digit c great = grind arith

pub first_no_digit : (s : List ℕ) (c d : ℕ) (rest more : List ℕ) → is_ascii_digit c ≡ false
    → s ≡ c ∷ rest → s ≡ d ∷ more → is_ascii_digit d ≡ false
first_no_digit s c d rest more other e f = by (sym e ∙ f)
  where
    by : c ∷ rest ≡ d ∷ more → is_ascii_digit d ≡ false
    by same = let first : c ≡ d = cc in ap is_ascii_digit (sym first) ∙ other

-- where the digits end, what was read is all of them
pub short_ends : (text rest : List ℕ) (start : ℕ) (digits : ShortDigits)
    → digits.count + length (front_digits rest) ≡ length (front_digits text)
    → digits.value < 10 ^ 18
    → digits_value_after 10 digits.value (front_digits rest)
    ≡ digits_value_after 10 start (front_digits text)
    → after_digits rest ≡ after_digits text
    → (front_digits rest ≡ []) × (after_digits rest ≡ rest)
    → IsShort digits start (front_digits text) × (rest ≡ after_digits text)
short_ends text rest start digits count short value after (none, all) = (
  record {
    count = omega (arith, count, ap length none);
    value = ap (digits_value_after 10 digits.value) (sym none) ∙ value;
    short = short;
  },
  sym all ∙ after,
)

pub digits_value_after-append : (ds es : List ℕ) (n : ℕ)
    → digits_value_after 10 n (ds ++ es) ≡ digits_value_after 10 (digits_value_after 10 n ds) es
digits_value_after-append [] es n = refl
digits_value_after-append (d ∷ ds) es n = digits_value_after-append ds es _
