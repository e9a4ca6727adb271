-- What is left of a text after an escape, a run or a number is not longer.
use Rattle.std.proofs.Common.{ℕ, ◌+◌, ◌*◌, ◌≤◌, arith, Bool, true, false, List, [], ◌∷◌, ◌++◌}
use Rattle.std.proofs.Common.{length, Option, Some, None}
use Rattle.std.specs.Prelude.{if◌then◌else◌, ◌==◌, ◌&&◌, ◌||◌, encode_utf8}
use Rattle.std.specs.Char.{digit_value, is_digit}
use Rattle.jsonb_value.specs.Json.Bind.{◌>>=◌}
use Rattle.jsonb_value.specs.Json.Characters.{backslash, letter_u, open_brace, close_brace, plus}
use Rattle.jsonb_value.specs.Json.Characters.{minus, point, zero_digit, is_exponent_mark}
use Rattle.jsonb_value.specs.Json.Piece.{unit4, unit_value, is_high, pair_character}
use Rattle.jsonb_path.specs.declared.token.cursor.Class.{Class}
use Rattle.jsonb_path.specs.declared.token.cursor.Class.TheVariants.{Digit}
use Rattle.jsonb_path.specs.Character.{begins, byte_len, passes, run}
use Rattle.jsonb_path.specs.Escape.{braced, braced_after, code_point, escape_at, escape_letter}
use Rattle.jsonb_path.specs.Escape.{four_digits, is_braced, low_half, scalar, two_digits, unicode}
use Rattle.jsonb_path.specs.Escape.{from_point, if_braced, with_digit, with_low}
use Rattle.jsonb_path.specs.Numeral.{after_character, after_sign, and_exponent, and_fraction}
use Rattle.jsonb_path.specs.Numeral.{exponent, fraction, numeral_at, with_sign}

-- what is left is not longer than the characters
abbrev pub Left : {A : Type 0} → List ℕ → Option (A × List ℕ) → Type 0
Left s None = Unit {0}
Left s (Some x) = length x.1 ≤ length s

-- ---- escapes

left_in : {A : Type 0} (s t : List ℕ) (o : Option (A × List ℕ)) → length s ≤ length t → Left s o
    → Left t o
left_in s t None h k = tt
left_in s t (Some x) h k = omega arith

left_then : {A B : Type 0} (s : List ℕ) (o : Option (A × List ℕ))
    (f : A × List ℕ → Option (B × List ℕ)) → Left s o
    → ((a : A × List ℕ) → Left a.1 (f a)) → Left s (o >>= f)
left_then s None f h each = tt
left_then s (Some a) f h each = left_in a.1 s (f a) h (each a)

left_as : {A B : Type 0} (s : List ℕ) (o : Option A) (f : A → Option (B × List ℕ))
    → ((a : A) → Left s (f a)) → Left s (o >>= f)
left_as s None f each = tt
left_as s (Some a) f each = each a

left_if : {A : Type 0} (s : List ℕ) (b : Bool) (o p : Option (A × List ℕ)) → Left s o → Left s p
    → Left s (if b then o else p)
left_if s true o p h k = h
left_if s false o p h k = k

two_left : (s : List ℕ) → Left s (two_digits s)
unfolding two_digits
two_left [] = tt
two_left (a ∷ []) = tt
two_left (a ∷ b ∷ s) = left_if (a ∷ b ∷ s) (is_digit a 16 && is_digit b 16)
    (scalar (digit_value a * 16 + digit_value b) >>= λ c. Some (c, s)) None
    (left_as (a ∷ b ∷ s) (scalar (digit_value a * 16 + digit_value b)) (λ c. Some (c, s))
    (λ c. omega arith)) tt

four_left : (s : List ℕ) → Left s (four_digits s)
unfolding four_digits
four_left [] = tt
four_left (a ∷ []) = tt
four_left (a ∷ b ∷ []) = tt
four_left (a ∷ b ∷ c ∷ []) = tt
four_left (a ∷ b ∷ c ∷ d ∷ s) =
    left_as (a ∷ b ∷ c ∷ d ∷ s) (unit_value (unit4 a b c d)) (λ u. Some (u, s)) (λ u. omega arith)

braced_after_left : (u : ℕ) (s : List ℕ) → Left s (braced_after u s)
braced_after_left u [] = tt
braced_after_left u (c ∷ s) =
    left_if (c ∷ s) (c == close_brace) (Some (u, s))
    (with_digit u c >>= λ v. braced_after v s) (omega arith)
    (left_as (c ∷ s) (with_digit u c) (λ v. braced_after v s)
    (λ v. left_in s (c ∷ s) (braced_after v s) (omega arith) (braced_after_left v s)))

braced_left : (s : List ℕ) → Left s (braced s)
unfolding braced
braced_left s = left_then s (braced_after 0 s) (if_braced s) (braced_after_left 0 s)
    (λ u. left_if u.1 (is_braced (byte_len s) (byte_len u.1)) (Some u) None (omega arith) tt)

point_left : (s : List ℕ) → Left s (code_point s)
unfolding code_point
point_left [] = tt
point_left (c ∷ s) = left_if (c ∷ s) (c == open_brace) (braced s) (four_digits (c ∷ s))
    (left_in s (c ∷ s) (braced s) (omega arith) (braced_left s)) (four_left (c ∷ s))

low_left : (s : List ℕ) → Left s (low_half s)
unfolding low_half
low_left [] = tt
low_left (b ∷ []) = tt
low_left (b ∷ u ∷ s) = left_if (b ∷ u ∷ s) ((b == backslash) && (u == letter_u)) (code_point s) None
    (left_in s (b ∷ u ∷ s) (code_point s) (omega arith) (point_left s)) tt

low_then : (high : ℕ) (low : ℕ × List ℕ) → Left low.1 (with_low high low)
low_then high low =
    left_as low.1 (pair_character high low.0) (λ c. Some (c, low.1)) (λ c. omega arith)

point_then : (u : ℕ × List ℕ) → Left u.1 (from_point u)
point_then u =
    left_if u.1 (is_high u.0) (low_half u.1 >>= with_low u.0) (scalar u.0 >>= λ c. Some (c, u.1))
    (left_then u.1 (low_half u.1) (with_low u.0) (low_left u.1) (low_then u.0))
    (left_as u.1 (scalar u.0) (λ c. Some (c, u.1)) (λ c. omega arith))

unicode_left : (s : List ℕ) → Left s (unicode s)
unfolding unicode
unicode_left s = left_then s (code_point s) from_point (point_left s) point_then

pub escape_left : (s : List ℕ) → Left s (escape_at s)
unfolding escape_at
escape_left [] = tt
escape_left (c ∷ s) =
    left_if (c ∷ s) (c == letter_u) (unicode s)
    (if c == 120 then two_digits s else (escape_letter c >>= λ x. Some (x, s)))
    (left_in s (c ∷ s) (unicode s) (omega arith) (unicode_left s))
    (left_if (c ∷ s) (c == 120) (two_digits s) (escape_letter c >>= λ x. Some (x, s))
    (left_in s (c ∷ s) (two_digits s) (omega arith) (two_left s))
    (left_as (c ∷ s) (escape_letter c) (λ x. Some (x, s)) (λ x. omega arith)))

-- ---- runs and numbers

pub by_test : {A : Type 0} (b : Bool) (x y : A × List ℕ) (n : ℕ) → length x.1 ≤ n → length y.1 ≤ n
    → length (if b then x else y).1 ≤ n
by_test true x y n h k = h
by_test false x y n h k = k

pub run_left : (class : Class) (front s : List ℕ) → length (run class front s).1 ≤ length s
run_left class front [] = omega arith
run_left class front (c ∷ s) = by_test (passes class c)
    (run class (front ++ encode_utf8 c) s) (front, c ∷ s) (length (c ∷ s))
    (let more = run_left class (front ++ encode_utf8 c) s in omega arith) (omega arith)

fraction_left : (front s : List ℕ) → length (fraction front s).1 ≤ length s
fraction_left front [] = omega arith
fraction_left front (c ∷ s) = by_test (c == point)
    (run Digit (front ++ encode_utf8 c) s) (front, c ∷ s) (length (c ∷ s))
    (let more = run_left Digit (front ++ encode_utf8 c) s in omega arith) (omega arith)

sign_left : (s : List ℕ) → length (after_sign s).1 ≤ length s
sign_left [] = omega arith
sign_left (c ∷ s) = by_test ((c == plus) || (c == minus)) (Some c, s) (None, c ∷ s)
    (length (c ∷ s)) (omega arith) (omega arith)

exponent_left : (front s : List ℕ) → length (exponent front s).1 ≤ length s
exponent_left front [] = omega arith
exponent_left front (c ∷ s) = by_test (is_exponent_mark c && begins Digit (after_sign s).1)
    (run Digit (with_sign (front ++ encode_utf8 c) (after_sign s).0) (after_sign s).1)
    (front, c ∷ s) (length (c ∷ s))
    (let digits = run_left Digit (with_sign (front ++ encode_utf8 c) (after_sign s).0)
    (after_sign s).1 in
    let sign = sign_left s in omega arith) (omega arith)

fraction_within : (x : List ℕ × List ℕ) (n : ℕ) → length x.1 ≤ n → length (and_fraction x).1 ≤ n
fraction_within x n h = let more = fraction_left x.0 x.1 in omega arith

exponent_within : (x : List ℕ × List ℕ) (n : ℕ) → length x.1 ≤ n → length (and_exponent x).1 ≤ n
exponent_within x n h = let more = exponent_left x.0 x.1 in omega arith

after_left : (front : List ℕ) (c : ℕ) (s : List ℕ)
    → length (after_character front c s).1 ≤ length s
after_left front c s = by_test (c == point) (run Digit front s)
    (if c == zero_digit then fraction front s else and_fraction (run Digit front s)) (length s)
    (run_left Digit front s)
    (by_test (c == zero_digit) (fraction front s) (and_fraction (run Digit front s)) (length s)
    (fraction_left front s)
    (fraction_within (run Digit front s) (length s) (run_left Digit front s)))

pub numeral_left : (c : ℕ) (s : List ℕ) → length (numeral_at [] (c ∷ s)).1 ≤ length s
unfolding numeral_at
numeral_left c s = exponent_within (after_character (encode_utf8 c) c s) (length s)
    (after_left (encode_utf8 c) c s)
