-- Runs of white space, tested a vector at a time by the mask of the other bytes, and the text after
-- them.
use Rattle.std.proofs.Common.{◌≡◌, ℕ, suc, ◌+◌, ◌<◌, ◌≤◌, ◌%◌, ◌^◌, Bool, true, false, ◌||◌, not}
use Rattle.std.proofs.Common.{cond, eqb, eqb-true, List, [], ◌∷◌, ◌++◌, map, length}
use Rattle.std.proofs.Common.{drop, replicate, get_or, bit_and, refl, sym, ap, subst, ◌∙◌, inl, inr}
use Rattle.std.proofs.Common.{arith}
use Rattle.std.proofs.lemmas.Bool.{cases_Bool, true≢false}
use Rattle.std.proofs.lemmas.List.{length-map}
use Rattle.std.proofs.lemmas.List.Sums.{prefix_len-le-length}
use Rattle.std.proofs.lemmas.Simd.{zip2_splat, zip2_of_maps, mask_l-mod}
use Rattle.std.proofs.lemmas.Str.{encode_ascii, encodes-chars, chars-nil}
use Rattle.std.proofs.lemmas.Str.{IsCharBoundary-from_drop}
use Rattle.std.specs.List.{prefix_len}
use Rattle.std.specs.Prelude.{chars, IsUtf8, encode_utf8_all}
use Rattle.std.specs.Simd.Lanes.{top, mask_l, chunk}
use Rattle.std.specs.Str.{IsCharBoundary}
use lib.Lanes.{zip2}
use lib.Count.{count_trailing_zeros}
use Rattle.jsonb_value.specs.Json.Characters.{is_blank, is_not_blank}
use Rattle.jsonb_value.specs.Reader.Reading.{skip_blank}
use Rattle.jsonb_value.proofs.AsciiLaws.{past_ascii, chars-ascii}
use Rattle.jsonb_value.proofs.LaneRuns.{passes_through, stops_within}

abbrev miss : ℕ → ℕ → ℕ
miss a b = cond (not (eqb a b)) 255 0

-- the four tests of a lane, as the code makes them
abbrev lane : ℕ → ℕ
lane x = bit_and (bit_and (bit_and (miss x 32) (miss x 9)) (miss x 10)) (miss x 13)

top_of_tests : (a b c d : Bool)
    → top 7 (bit_and (bit_and (bit_and (cond (not a) 255 0) (cond (not b) 255 0))
    (cond (not c) 255 0)) (cond (not d) 255 0))
    ≡ not (((a || b) || c) || d)
top_of_tests a b c d = grind arith

tops_of_lanes : (v : List ℕ) → map (top 7) (map lane v) ≡ map is_not_blank v
tops_of_lanes [] = refl
tops_of_lanes (x ∷ xs) = grind (arith, top_of_tests, tops_of_lanes xs)

pub mask_of_not_blank : (v : List ℕ) (n : ℕ) → length v ≡ n → n ≤ 64
    → mask_l (map (top 7)
    (zip2 bit_and (zip2 bit_and
    (zip2 bit_and (zip2 miss v (replicate n 32)) (zip2 miss v (replicate n 9)))
    (zip2 miss v (replicate n 10))) (zip2 miss v (replicate n 13)))) % 2 ^ 64
    ≡ mask_l (map is_not_blank v)
mask_of_not_blank v n long few =
    let tests = zip2_of_maps bit_and _ _ v
    (zip2_of_maps bit_and _ _ v
    (zip2_of_maps bit_and _ _ v (zip2_splat miss v n 32 long) (zip2_splat miss v n 9 long))
    (zip2_splat miss v n 10 long)) (zip2_splat miss v n 13 long) in
    ap (λ l. mask_l l % 2 ^ 64) (ap (map (top 7)) tests ∙ tops_of_lanes v)
    ∙ mask_l-mod (map is_not_blank v) 64 (omega (arith, length-map v is_not_blank))

blank_or_not : (b : ℕ) → is_blank b ≡ not (is_not_blank b)
blank_or_not b = grind arith

pub blanks_through : (bytes : List ℕ) (i n : ℕ) → i + n ≤ length bytes
    → mask_l (map is_not_blank (chunk i n bytes)) ≡ 0
    → prefix_len is_blank (drop i bytes) ≡ n + prefix_len is_blank (drop (i + n) bytes)
blanks_through = passes_through is_not_blank is_blank blank_or_not

pub blanks_stop : (bytes : List ℕ) (i n : ℕ) → i + n ≤ length bytes → n ≤ 64
    → 0 < mask_l (map is_not_blank (chunk i n bytes))
    → prefix_len is_blank (drop i bytes)
    ≡ count_trailing_zeros 64 (mask_l (map is_not_blank (chunk i n bytes)))
blanks_stop = stops_within is_not_blank is_blank blank_or_not

-- ---- blank bytes are blank characters

small_blank : (b : ℕ) → is_blank b ≡ true → b < 128
small_blank b e = grind (arith, eqb-true)

-- a first character that is blank is the first byte
first_is : (b : ℕ) (bytes cs : List ℕ) → encode_utf8_all cs ≡ b ∷ bytes → is_blank b ≡ false
    → skip_blank cs ≡ cs
first_is b bytes [] e no_blank = refl
first_is b bytes (c ∷ cs) e no_blank = elim (cases_Bool (is_blank c)) [
  | inl white ↦
      let one : c ∷ encode_utf8_all cs ≡ b ∷ bytes =
      sym (ap (λ l. l ++ encode_utf8_all cs) (encode_ascii c (small_blank c white))) ∙ e in
      let same : c ≡ b = ap (λ l. get_or l 0 0) one in
      absurd (true≢false (sym white ∙ ap is_blank same ∙ no_blank))
  | inr other ↦ rw other refl
]

-- the text after its leading white space
pub record PastBlanks (bytes : List ℕ) (n : ℕ) : Type 0 where
  pub boundary : IsCharBoundary bytes n
  pub left : chars (drop n bytes) ≡ skip_blank (chars bytes)

one_more : (b : ℕ) (bytes : List ℕ) → is_blank b ≡ true
    → prefix_len is_blank (b ∷ bytes) ≡ suc (prefix_len is_blank bytes)
one_more b bytes e = rw e (omega arith)

past : (bytes : List ℕ) → IsUtf8 bytes
    → IsUtf8 (drop (prefix_len is_blank bytes) bytes)
    × (chars (drop (prefix_len is_blank bytes) bytes) ≡ skip_blank (chars bytes))
past [] utf8 = (utf8, chars-nil ∙ sym (ap skip_blank chars-nil))
past (b ∷ bytes) utf8 = elim (cases_Bool (is_blank b)) [
  | inl white ↦
      let small = small_blank b white in
      let rest = past bytes (past_ascii b bytes small utf8) in
      let skipped : skip_blank (chars (b ∷ bytes)) ≡ skip_blank (chars bytes) =
      ap skip_blank (chars-ascii b bytes small utf8) ∙ by_true (is_blank b) _ _ white in
      let dropped = ap (λ k. drop k (b ∷ bytes)) (one_more b bytes white) in
      (subst IsUtf8 (sym dropped) rest.0, ap chars dropped ∙ rest.1 ∙ sym skipped)
  | inr other ↦
      rw other (
        utf8,
        sym (first_is b bytes (chars (b ∷ bytes)) (encodes-chars (b ∷ bytes) utf8) other),
      )
]
  where
    by_true : {A : Type 0} (t : Bool) (x y : A) → t ≡ true → cond t x y ≡ x
    by_true t x y e = rw e refl

pub past_blanks : (bytes : List ℕ) (n : ℕ) → IsUtf8 bytes → n ≡ prefix_len is_blank bytes
    → PastBlanks bytes n
past_blanks bytes n utf8 e =
    let both = past bytes utf8 in
    record {
      boundary = subst (IsCharBoundary bytes) (sym e)
          (IsCharBoundary-from_drop bytes (prefix_len is_blank bytes)
          (prefix_len-le-length is_blank bytes) both.0);
      left = ap (λ k. chars (drop k bytes)) e ∙ both.1;
    }
