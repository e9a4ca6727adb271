-- Runs of digits, read several at a time, and the characters that they are.
use Rattle.std.proofs.Common.{◌≡◌, ℕ, suc, ◌+◌, ◌-◌, ◌*◌, ◌%◌, ◌^◌, ◌<◌, ◌≤◌, Bool, true, false}
use Rattle.std.proofs.Common.{List, [], ◌∷◌, ◌++◌, length, take, drop, get_or, slice_range}
use Rattle.std.proofs.Common.{refl, sym, ap, subst, ◌∙◌, inl, inr, arith, ltb, pow-add, chars}
use Rattle.std.proofs.lemmas.Bool.{cases_Bool, true≢false, ltb-true}
use Rattle.std.proofs.lemmas.Int.Digits.{digits_value-lt}
use Rattle.std.proofs.lemmas.List.{length-take-le}
use Rattle.std.proofs.lemmas.List.Sums.{prefix_len-le-length}
use Rattle.std.proofs.lemmas.Str.{encode_ascii, encodes-chars, chars-nil}
use Rattle.std.proofs.lemmas.Str.{IsCharBoundary-from_drop}
use Rattle.std.proofs.Math.Nat.{mul-le-mul_right, mod-eq_of_lt}
use Rattle.std.specs.Bool.{OnTrue}
use Rattle.std.specs.Char.{is_ascii_digit}
use Rattle.std.specs.List.{prefix_len}
use Rattle.std.specs.Prelude.{IsUtf8, encode_utf8_all}
use Rattle.std.specs.Str.{IsCharBoundary}
use Rattle.std.specs.Str.Parse.{digits_value, digits_value_after}
use Rattle.core.proofs.dec2flt.DigitsLemmas.{digits_value_after_is}
use Rattle.core.proofs.dec2flt.Rows.{AllDigits-digits_len}
use Rattle.jsonb_value.specs.Reader.Digits.{IsShort}
use Rattle.jsonb_value.specs.Reader.Reading.{front_digits, after_digits}
use Rattle.jsonb_value.proofs.AsciiLaws.{past_ascii, chars-ascii}

-- ---- numbers that stay short

stays_below : (start count : ℕ) → count ≤ 18 → start < 10 ^ (18 - count)
    → start * 10 ^ count + 10 ^ count ≤ 10 ^ 18
stays_below start count few below =
    let whole : 18 - count + count ≡ 18 = omega (arith, few) in
    let split : 10 ^ (18 - count) * 10 ^ count ≡ 10 ^ 18 =
    sym (pow-add 10 (18 - count) count) ∙ ap (λ k. 10 ^ k) whole in
    let more : (start + 1) * 10 ^ count ≤ 10 ^ (18 - count) * 10 ^ count =
    mul-le-mul_right (10 ^ count) (omega (arith, below)) in
    omega (arith, split, more)

on_true : (b : Bool) (P : Type 0) → (b ≡ true → P) → OnTrue b P
on_true b P f = grind arith

pub short_stays : (start count power : ℕ) → count ≤ 18 → power ≡ 10 ^ (18 - count)
    → OnTrue (ltb start power) (start * 10 ^ count + 10 ^ count ≤ 10 ^ 18)
short_stays start count power few is =
    on_true _ _ (λ (e : ltb start power ≡ true).
    stays_below start count few (omega (arith, is, ltb-true start power e)))

-- ---- digit bytes are digit characters

small_digit : (b : ℕ) → is_ascii_digit b ≡ true → b < 128
small_digit b e = grind arith

-- a first character that is a digit is the first byte
first_is : (b : ℕ) (bytes cs : List ℕ) → encode_utf8_all cs ≡ b ∷ bytes
    → is_ascii_digit b ≡ false → (front_digits cs ≡ []) × (after_digits cs ≡ cs)
first_is b bytes [] e other = (refl, refl)
first_is b bytes (c ∷ cs) e other = elim (cases_Bool (is_ascii_digit c)) [
  | inl digit ↦
      let one : c ∷ encode_utf8_all cs ≡ b ∷ bytes =
      sym (ap (λ l. l ++ encode_utf8_all cs) (encode_ascii c (small_digit c digit))) ∙ e in
      let same : c ≡ b = ap (λ l. get_or l 0 0) one in
      absurd (true≢false (sym digit ∙ ap is_ascii_digit same ∙ other))
  | inr none ↦ rw none (refl, refl)
]

-- the first n bytes are the digits at the start of the text, and it goes on after them
pub record DigitRun (bytes : List ℕ) (n : ℕ) : Type 0 where
  pub utf8 : IsUtf8 (drop n bytes)
  pub front : take n bytes ≡ front_digits (chars bytes)
  pub after : chars (drop n bytes) ≡ after_digits (chars bytes)

digit_run : (bytes : List ℕ) → IsUtf8 bytes → DigitRun bytes (prefix_len is_ascii_digit bytes)
digit_run [] utf8 = record {
  utf8 = utf8;
  front = sym (ap front_digits chars-nil);
  after = chars-nil ∙ sym (ap after_digits chars-nil);
}
digit_run (b ∷ bytes) utf8 = elim (cases_Bool (is_ascii_digit b)) [
  | inl digit ↦
      let small = small_digit b digit in
      let rest = digit_run bytes (past_ascii b bytes small utf8) in
      let whole = chars-ascii b bytes small utf8 in
      let more : prefix_len is_ascii_digit (b ∷ bytes) ≡ suc (prefix_len is_ascii_digit bytes) =
      rw digit (omega arith) in
      subst (DigitRun (b ∷ bytes)) (sym more) (record {
        utf8 = rest.utf8;
        front = ap (λ l. b ∷ l) rest.front ∙ sym (ap front_digits whole ∙ rw digit refl);
        after = rest.after ∙ sym (ap after_digits whole ∙ rw digit refl);
      })
  | inr other ↦
      let none = first_is b bytes (chars (b ∷ bytes)) (encodes-chars (b ∷ bytes) utf8) other in
      let zero_len : prefix_len is_ascii_digit (b ∷ bytes) ≡ 0 = rw other refl in
      subst (DigitRun (b ∷ bytes)) (sym zero_len)
      (record { utf8 = utf8; front = sym none.0; after = sym none.1 })
]

-- the digits at the start of a text, as the code has it, whose count is n
module _ (bytes own : List ℕ) (utf8 : IsUtf8 bytes) (same : own ≡ bytes) (n : ℕ)
    (end : n ≡ 0 + prefix_len is_ascii_digit own) where
  counted : n ≡ prefix_len is_ascii_digit bytes
  counted = omega (arith, end, ap (prefix_len is_ascii_digit) same)

  run : DigitRun bytes n
  run = subst (DigitRun bytes) (sym counted) (digit_run bytes utf8)

  within : n ≤ length bytes
  within = omega (arith, counted, prefix_len-le-length is_ascii_digit bytes)

  pub digits_boundary : IsCharBoundary bytes n
  digits_boundary = IsCharBoundary-from_drop bytes n within run.utf8

  pub text_after_digits : chars (drop n bytes) ≡ after_digits (chars bytes)
  text_after_digits = run.after

  -- a number that stays short is below 2^64, so the remainder is it
  pub short_digits : (start value : ℕ)
      → value ≡ (start * 10 ^ (n - 0) + digits_value 10 (slice_range own 0 n)) % 2 ^ 64
      → start * 10 ^ n + 10 ^ n ≤ 10 ^ 18
      → IsShort (record { count = n; value = value }) start (front_digits (chars bytes))
  short_digits start value is short =
      let all : n - 0 ≡ n = omega arith in
      let ds = take n bytes in
      let read : value ≡ (start * 10 ^ n + digits_value 10 ds) % 2 ^ 64 =
      is ∙ ap (λ k. (start * 10 ^ k + digits_value 10 (take k own)) % 2 ^ 64) all
      ∙ ap (λ l. (start * 10 ^ n + digits_value 10 (take n l)) % 2 ^ 64) same in
      let long : length ds ≡ n = length-take-le n bytes within in
      let below : digits_value 10 ds < 10 ^ n =
      subst (λ k. digits_value 10 ds < 10 ^ k) long
      (digits_value-lt 10 ds (AllDigits-digits_len bytes n (omega (arith, counted)))) in
      let whole : value ≡ start * 10 ^ n + digits_value 10 ds =
      read ∙ mod-eq_of_lt (omega (arith, below, short)) in
      record {
        count = sym long ∙ ap length run.front;
        value = whole ∙ ap (λ k. start * 10 ^ k + digits_value 10 ds) (sym long)
            ∙ sym (digits_value_after_is start ds) ∙ ap (digits_value_after 10 start) run.front;
        short = omega (arith, whole, below, short);
      }
