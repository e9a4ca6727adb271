-- Bytes of ASCII, tested a vector at a time by the mask of the other bytes.
use Rattle.std.proofs.Common.{◌≡◌, ℕ, ◌+◌, ◌≤◌, ◌%◌, ◌^◌, Bool, true, cond, leb, ◌==◌, List}
use Rattle.std.proofs.Common.{map, length, replicate, get_or, sym, ap, ◌∙◌, w8, arith}
use Rattle.std.proofs.lemmas.Bool.{leb-false, eqb-true}
use Rattle.std.proofs.lemmas.List.{length-map}
use Rattle.std.proofs.lemmas.Simd.{zip2_splat_left, tops_compared, mask_l-mod, length-chunk}
use Rattle.std.proofs.lemmas.Simd.{none_from_empty_mask}
use Rattle.std.specs.Bool.{OnTrue}
use Rattle.std.specs.Simd.Lanes.{top, mask_l, chunk}
use lib.Lanes.{zip2}
use Rattle.jsonb_codec.specs.Ascii.{IsAsciiWithin}

abbrev at_least : ℕ → ℕ → ℕ
at_least a b = cond (leb a b) 255 0

mask_of_others : (v : List ℕ) (n : ℕ) → length v ≡ n → n ≤ 64
    → mask_l (map (top 7) (zip2 at_least (replicate n 128) v)) % 2 ^ 64 ≡ mask_l (map (leb 128) v)
mask_of_others v n long few =
    ap (λ ms. mask_l ms % 2 ^ 64)
    (tops_compared w8 leb (replicate n 128) v ∙ zip2_splat_left leb 128 n v long)
    ∙ mask_l-mod (map (leb 128) v) 64 (omega (arith, length-map v (leb 128)))

on_true : (b : Bool) (P : Type 0) → (b ≡ true → P) → OnTrue b P
on_true b P f = grind arith

-- an empty mask means that each of its bytes is ASCII
pub ascii_by_mask : (bytes : List ℕ) (i n : ℕ) → i + n ≤ length bytes → n ≤ 64
    → OnTrue
    (mask_l (map (top 7) (zip2 at_least (replicate n 128) (chunk i n bytes))) % 2 ^ 64 == 0)
    (IsAsciiWithin bytes i (i + n))
ascii_by_mask bytes i n within few =
    let mask = mask_l (map (top 7) (zip2 at_least (replicate n 128) (chunk i n bytes))) % 2 ^ 64 in
    on_true (mask == 0) (IsAsciiWithin bytes i (i + n)) (λ e k from upto.
    leb-false 128 (get_or bytes k 0) (none_from_empty_mask (leb 128) bytes i n 0 within
    (sym (mask_of_others (chunk i n bytes) n (length-chunk i n bytes within) few)
    ∙ eqb-true mask 0 e) k from upto))
