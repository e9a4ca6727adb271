-- Runs of unescaped bytes, tested a vector at a time by the mask of escaped bytes.
use Rattle.std.proofs.Common.{◌≡◌, ℕ, ◌+◌, ◌<◌, ◌≤◌, ◌%◌, ◌^◌, Bool, true, not, cond, eqb}
use Rattle.std.proofs.Common.{ltb, ◌||◌, ◌==◌, List, [], ◌∷◌, map, length, drop, replicate, bit_or}
use Rattle.std.proofs.Common.{refl, sym, ap, ◌∙◌, inl, inr, get_or, ◌-◌, arith}
use Rattle.std.proofs.lemmas.Bool.{cases_lt, eqb-true, not-true}
use Rattle.std.proofs.lemmas.Bool.Decides.{nat_tests}
use Rattle.std.proofs.lemmas.Simd.{zip2_splat, zip2_of_maps, mask_l-mod, none_from_empty_mask}
use Rattle.std.proofs.lemmas.Simd.{length-chunk}
use Rattle.std.proofs.lemmas.Simd.{get_or-chunk}
use Rattle.std.proofs.lemmas.List.{length-map, length-append, length-take-le, take_all}
use Rattle.std.proofs.lemmas.List.{get_or_append_left, get_or-append_right, get_or-take}
use Rattle.std.proofs.lemmas.List.Sums.{prefix_len_passes}
use Rattle.std.specs.Bool.{OnTrue}
use Rattle.std.specs.List.{prefix_len}
use Rattle.std.specs.Simd.Lanes.{top, mask_l, chunk}
use lib.Lanes.{zip2}
use lib.Count.{count_trailing_zeros}
use Rattle.jsonb_value.specs.Json.Piece.{is_plain}
use Rattle.jsonb_value.proofs.LaneRuns.{passes_through, stops_within}
use Rattle.jsonb_value.specs.Text.{is_escaped, ends, NoneEscaped}

abbrev hit : ℕ → ℕ → ℕ
hit a b = cond (eqb a b) 255 0

abbrev below : ℕ → ℕ → ℕ
below a b = cond (ltb a b) 255 0

-- the three tests of a lane, as the code makes them
abbrev lane : ℕ → ℕ
lane x = bit_or (bit_or (hit x 34) (hit x 92)) (below x 32)

top_of_tests : (a b c : Bool)
    → top 7 (bit_or (bit_or (cond a 255 0) (cond b 255 0)) (cond c 255 0)) ≡ ((a || b) || c)
top_of_tests a b c = grind arith

tops_of_lanes : (v : List ℕ) → map (top 7) (map lane v) ≡ map is_escaped v
tops_of_lanes [] = refl
tops_of_lanes (x ∷ xs) = grind (arith, top_of_tests, tops_of_lanes xs)

pub mask_of_escaped : (v : List ℕ) (n : ℕ) → length v ≡ n → n ≤ 64
    → mask_l (map (top 7)
    (zip2 bit_or (zip2 bit_or (zip2 hit v (replicate n 34)) (zip2 hit v (replicate n 92)))
    (zip2 below v (replicate n 32)))) % 2 ^ 64 ≡ mask_l (map is_escaped v)
mask_of_escaped v n long few =
    let tests = zip2_of_maps bit_or _ _ v
    (zip2_of_maps bit_or _ _ v (zip2_splat hit v n 34 long) (zip2_splat hit v n 92 long))
    (zip2_splat below v n 32 long) in
    ap (λ l. mask_l l % 2 ^ 64) (ap (map (top 7)) tests ∙ tops_of_lanes v)
    ∙ mask_l-mod (map is_escaped v) 64 (omega (arith, length-map v is_escaped))

on_true : (b : Bool) (P : Type 0) → (b ≡ true → P) → OnTrue b P
on_true b P f = grind arith

-- an empty mask means that none of its bytes is escaped
pub none_escaped : (bytes : List ℕ) (i n mask : ℕ) → i + n ≤ length bytes
    → mask ≡ mask_l (map is_escaped (chunk i n bytes))
    → OnTrue (mask == 0) (NoneEscaped bytes i (i + n))
none_escaped bytes i n mask within is = grind (arith, on_true, none_from_empty_mask, eqb-true)

pub length-ends : (n : ℕ) (bytes : List ℕ) → n ≤ length bytes → length (ends n bytes) ≡ n + n
length-ends n bytes within = grind (arith, length-append, length-take-le, length-chunk)

get_or-ends_front : (n : ℕ) (bytes : List ℕ) (k : ℕ) → n ≤ length bytes → k < n
    → get_or (ends n bytes) k 0 ≡ get_or bytes k 0
get_or-ends_front n bytes k within below =
    grind (arith, get_or_append_left, length-take-le, get_or-take)

get_or-ends_back : (n : ℕ) (bytes : List ℕ) (k : ℕ) → n ≤ length bytes → k < n
    → get_or (ends n bytes) (n + k) 0 ≡ get_or bytes (length bytes - n + k) 0
get_or-ends_back n bytes k within below =
    grind (arith, get_or-append_right, length-take-le, get_or-chunk)

-- each byte is among the first n or the last n
none_from_ends : (bytes : List ℕ) (n : ℕ) → n ≤ length bytes → length bytes ≤ n + n
    → NoneEscaped (ends n bytes) 0 (n + n) → NoneEscaped bytes 0 (length bytes)
none_from_ends bytes n within covers none k from upto = elim (cases_lt k n) [
  | inl front ↦ sym (ap is_escaped (get_or-ends_front n bytes k within front))
      ∙ none k (omega arith) (omega arith)
  | inr later ↦
      let j = k - (length bytes - n) in
      ap (λ i. is_escaped (get_or bytes i 0)) (omega arith)
      ∙ sym (ap is_escaped (get_or-ends_back n bytes j within (omega arith)))
      ∙ none (n + j) (omega arith) (omega arith)
]

-- an empty mask of both ends means that no byte is escaped
pub none_escaped_at_ends : (bytes : List ℕ) (n mask : ℕ) → n ≤ length bytes → length bytes ≤ n + n
    → mask ≡ mask_l (map is_escaped (ends n bytes))
    → OnTrue (mask == 0) (NoneEscaped bytes 0 (length bytes))
none_escaped_at_ends bytes n mask within covers is = on_true _ _ (λ e.
    let whole : chunk 0 (n + n) (ends n bytes) ≡ ends n bytes =
    take_all (n + n) (ends n bytes) (omega (arith, length-ends n bytes within)) in
    none_from_ends bytes n within covers (λ k from upto.
    none_from_empty_mask is_escaped (ends n bytes) 0 (n + n) 0
    (omega (arith, length-ends n bytes within)) (rw whole (sym is ∙ eqb-true mask 0 e)) k from
    (omega arith)))

is_plain-not_escaped : (b : ℕ) → is_plain b ≡ not (is_escaped b)
is_plain-not_escaped b = grind (arith, nat_tests)

pub run_through : (bytes : List ℕ) (i n : ℕ) → i + n ≤ length bytes
    → mask_l (map is_escaped (chunk i n bytes)) ≡ 0
    → prefix_len is_plain (drop i bytes) ≡ n + prefix_len is_plain (drop (i + n) bytes)
run_through = passes_through is_escaped is_plain is_plain-not_escaped

pub run_stops : (bytes : List ℕ) (i n : ℕ) → i + n ≤ length bytes → n ≤ 64
    → 0 < mask_l (map is_escaped (chunk i n bytes))
    → prefix_len is_plain (drop i bytes)
    ≡ count_trailing_zeros 64 (mask_l (map is_escaped (chunk i n bytes)))
run_stops = stops_within is_escaped is_plain is_plain-not_escaped

pub none_escaped_in_run : (xs : List ℕ) (n : ℕ) → n ≡ prefix_len is_plain xs
    → OnTrue (n == length xs) (NoneEscaped xs 0 (length xs))
none_escaped_in_run xs n is =
    grind (arith, on_true, eqb-true, prefix_len_passes, not-true, is_plain-not_escaped)
