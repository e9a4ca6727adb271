-- A first byte below 128 is the first character, and any other is part of a greater one.
use Rattle.std.proofs.Common.{◌≡◌, ℕ, ◌<◌, ◌≤◌, List, [], ◌∷◌, ◌++◌, length, drop, get_or, sym, ap}
use Rattle.std.proofs.Common.{◌∙◌, arith}
use Rattle.std.proofs.lemmas.Str.{encode_ascii, encodes-chars, chars_past_char, IsUtf8-drop}
use Rattle.std.proofs.lemmas.Str.{IsCharBoundary-after_ascii, chars-nil}
use Rattle.std.specs.Prelude.{chars, IsUtf8, encode_utf8_all}
use Rattle.std.specs.Str.{IsCharBoundary}

pub past_ascii : (b : ℕ) (bytes : List ℕ) → b < 128 → IsUtf8 (b ∷ bytes) → IsUtf8 bytes
past_ascii b bytes small utf8 =
    IsUtf8-drop (b ∷ bytes) 1 utf8
    (IsCharBoundary-after_ascii (b ∷ bytes) 0 utf8 (omega arith) small)

pub chars-ascii : (b : ℕ) (bytes : List ℕ) → b < 128 → IsUtf8 (b ∷ bytes)
    → chars (b ∷ bytes) ≡ b ∷ chars bytes
chars-ascii b bytes small utf8 =
    chars_past_char (b ∷ bytes) bytes b utf8 (ap (λ l. l ++ bytes) (sym (encode_ascii b small)))

-- the first byte of a text, as the code has it
module _ (bytes own : List ℕ) (utf8 : IsUtf8 bytes) (same : own ≡ bytes) (b : ℕ)
    (is : b ≡ get_or own 0 0) where
  pub ascii_boundary : 1 ≤ length own → b < 128 → IsCharBoundary bytes 1
  ascii_boundary some small = IsCharBoundary-after_ascii bytes 0 utf8
      (omega (arith, some, ap length same)) (omega (arith, small, is, ap (λ l. get_or l 0 0) same))

  pub first_ascii : 1 ≤ length own → b < 128 → chars bytes ≡ b ∷ chars (drop 1 bytes)
  first_ascii some small = by bytes utf8 (is ∙ ap (λ l. get_or l 0 0) same)
      (omega (arith, some, ap length same))
    where
      by : (bs : List ℕ) → IsUtf8 bs → b ≡ get_or bs 0 0 → 1 ≤ length bs
          → chars bs ≡ b ∷ chars (drop 1 bs)
      by [] u e n = absurd (omega (arith, n))
      by (x ∷ bs) u e n = chars-ascii x bs (omega (arith, e, small)) u
          ∙ ap (λ k. k ∷ chars bs) (sym e)

  pub first_greater : 128 ≤ b → (c : ℕ) (more : List ℕ) → chars bytes ≡ c ∷ more → 128 ≤ c
  first_greater great c more e = omega (arith, not_small)
    where
      not_small : c < 128 → ⊥
      not_small small =
          let one : c ∷ encode_utf8_all more ≡ bytes =
          sym (ap (λ l. l ++ encode_utf8_all more) (encode_ascii c small))
          ∙ sym (ap encode_utf8_all e) ∙ encodes-chars bytes utf8 in
          let first : c ≡ get_or bytes 0 0 = ap (λ l. get_or l 0 0) one in
          omega (arith, great, first, is, ap (λ l. get_or l 0 0) same, small)

pub none_first : (bytes own : List ℕ) → own ≡ bytes → length own ≡ 0 → (c : ℕ) (more : List ℕ)
    → chars bytes ≡ c ∷ more → 128 ≤ c
none_first [] own same none c more e = let h : [] ≡ c ∷ more = sym chars-nil ∙ e in cc
none_first (b ∷ bytes) own same none c more e = absurd (omega (arith, none, ap length same))

-- no bytes spell no characters
pub no_chars : (bytes : List ℕ) → length bytes ≡ 0 → chars bytes ≡ []
no_chars [] none = chars-nil
no_chars (b ∷ bytes) none = absurd (omega (arith, none))

pub no_bytes : (bytes : List ℕ) → IsUtf8 bytes → chars bytes ≡ [] → length bytes ≡ 0
no_bytes bytes utf8 none = ap length (sym (encodes-chars bytes utf8) ∙ ap encode_utf8_all none)
