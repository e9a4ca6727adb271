-- The laws of reading values of which none is below the one before it.
use Rattle.std.proofs.Common.{◌≡◌, ℕ, ◌+◌, ◌-◌, ◌^◌, ◌<◌, ◌≤◌, List, [], ◌∷◌, ◌++◌}
use Rattle.std.proofs.Common.{ℤ, pos, ◌+ℤ◌, ◌<ℤ◌, All, FitsSigned, Option, Some, None, sum, map}
use Rattle.std.proofs.Common.{length}
use Rattle.std.proofs.Common.{drop, take, take-append-drop, refl, sym, ap, ap₂, ◌∙◌, arith}
use Rattle.std.proofs.Common.{le-ltb}
use Rattle.std.specs.Int.{cast_signed, cast_unsigned, to_be_bytes, w64}
use Rattle.std.proofs.lemmas.Int.{by_lt_z, ints, of_z-to_z}
use Rattle.std.proofs.lemmas.List.{drop_at, length-append, length-map}
use Rattle.std.proofs.lemmas.List.Elements.{All-head, All-tail}
use Rattle.byteorder.specs.Endian.{big_number}
use Rattle.byteorder.specs.Numbers.{big_from-lt, length-bytes_high_first}
use Rattle.typed_chunk.specs.Frame.{IsFrame, frame, naturals_fault, numbers_in, signed_word}
use Rattle.typed_chunk.specs.Frame.{unsigned_word}
use Rattle.typed_chunk.specs.Headed.{first_fault}
use Rattle.typed_chunk.specs.Rising.{IsRising, last_fault, rising_fault}
use Rattle.typed_chunk.specs.Rising.{steps_from, values_from}
use Rattle.typed_chunk.specs.declared.fault.ChunkFault.{ChunkFault}
use Rattle.typed_chunk.proofs.DigitLaws.{Below}
use Rattle.typed_chunk.proofs.FrameLaws.{signed_word_read}
use Rattle.typed_chunk.proofs.HeadedLaws.{some_not_none}
use Rattle.typed_chunk.proofs.HighFirstLaws.{high_bytes-number}
use Rattle.typed_chunk.proofs.RisingLaws.{last_has, last_left, length-steps_from}
use Rattle.typed_chunk.proofs.RisingLaws.{length-values_from}
use Rattle.typed_chunk.proofs.RisingLaws.{rises-values, steps-values, steps_fit, values-steps}

-- What the bytes of rising values say of them.
pub record RisingParts (values : List ℤ) (bytes : List ℕ) : Type 0 where
  pub first : ℤ
  pub steps : List ℕ
  pub is : first ∷ values_from first steps ≡ values
  pub many : length steps + 1 ≡ length values
  pub long : 8 ≤ length bytes
  pub read : cast_signed w64 (big_number 8 bytes) ≡ first
  pub fit : All (λ step. step < 2 ^ 64) steps
  pub last : FitsSigned w64 (first +ℤ pos (sum steps))
  pub behind : IsFrame (unsigned_word 8) (map pos steps) (drop 8 bytes)

pub rising_parts : (values : List ℤ) (bytes : List ℕ) → All (FitsSigned w64) values
    → IsRising w64 values bytes → RisingParts values bytes
rising_parts [] bytes fit are = absurd (omega (arith, are.two))
rising_parts (first ∷ rest) bytes fit are =
    let steps = steps_from first rest in
    let word = signed_word w64 first in
    let body = frame (unsigned_word 8) (map pos steps) in
    let first_fits = All-head (FitsSigned w64) first rest fit in
    let rest_fit = All-tail (FitsSigned w64) first rest fit in
    let same : bytes ≡ word ++ body = are.same in
    let size : length word ≡ 8 = length-bytes_high_first 8 (cast_unsigned w64 first) in
    let apart : drop 8 bytes ≡ body =
    ap (drop 8) same ∙ ap (λ (k : ℕ). drop k (word ++ body)) (sym size)
    ∙ drop_at word body (length word) refl in
    let many : length steps ≡ length rest = length-steps_from first rest in
    record {
      first = first;
      steps = steps;
      is = ap (λ (xs : List ℤ). first ∷ xs) (values-steps first rest are.up);
      many = omega (arith, many);
      long = omega (arith, size, ap length same, length-append word body);
      read = ap (λ (bs : List ℕ). cast_signed w64 (big_number 8 bs)) same
          ∙ signed_word_read w64 first body first_fits;
      fit = steps_fit w64 first rest are.up first_fits rest_fit;
      last = last_has (FitsSigned w64) first rest are.up first_fits rest_fit;
      behind = record {
        some = omega (arith, are.two, many, length-map steps pos);
        same = apart;
      };
    }

-- Steps behind a first value are rising values.
pub rising_read : (steps bytes : List ℕ) → Below 256 bytes → 8 ≤ length bytes
    → IsFrame (unsigned_word 8) (map pos steps) (drop 8 bytes)
    → IsRising w64 (cast_signed w64 (big_number 8 bytes)
    ∷ values_from (cast_signed w64 (big_number 8 bytes)) steps) bytes
rising_read steps bytes below long behind =
    let n = big_number 8 bytes in
    let first = cast_signed w64 n in
    let low : n < 2 ^ 64 = big_from-lt 0 8 bytes below in
    let word : take 8 bytes ≡ signed_word w64 first =
    sym (ap (λ (k : ℕ). to_be_bytes w64 k) (of_z-to_z w64 n low)
    ∙ high_bytes-number 8 bytes below long) in
    record {
      two = omega (arith, behind.some, length-map steps pos, length-values_from first steps);
      up = rises-values first steps;
      same = sym (take-append-drop 8 bytes)
          ∙ ap₂ (λ (xs ys : List ℕ). xs ++ ys) word
          (behind.same ∙ ap (λ (ns : List ℕ). frame (unsigned_word 8) (map pos ns))
          (sym (steps-values first steps)));
    }

-- The fault of bytes that have a first value is that of the steps, or else of the last value.
pub rising_behind : (count : ℕ) (bytes : List ℕ) → 8 ≤ length bytes
    → rising_fault w64 count bytes ≡ first_fault (naturals_fault 8 (count - 1) (drop 8 bytes))
    (last_fault 63 (cast_signed w64 (big_number 8 bytes)) (numbers_in 8 (count - 1) (drop 8 bytes)))
rising_behind count bytes long = rw (le-ltb (length bytes) 8 long) refl

pub steps_refused : (count many : ℕ) (bytes part : List ℕ) (fault : ChunkFault)
    → 8 ≤ length bytes → many + 1 ≡ count → part ≡ drop 8 bytes
    → Some fault ≡ naturals_fault 8 many part → Some fault ≡ rising_fault w64 count bytes
steps_refused count many bytes part fault long more is refused =
    let less : many ≡ count - 1 = omega (arith, more) in
    ap (λ (f : Option ChunkFault). first_fault f (last_fault 63
    (cast_signed w64 (big_number 8 bytes)) (numbers_in 8 (count - 1) (drop 8 bytes))))
    (refused ∙ ap₂ (λ (n : ℕ) (bs : List ℕ). naturals_fault 8 n bs) less is)
    ∙ sym (rising_behind count bytes long)

pub last_refused : (count many : ℕ) (bytes part steps : List ℕ) (first : ℤ)
    (fault : Option ChunkFault) → 8 ≤ length bytes → many + 1 ≡ count → part ≡ drop 8 bytes
    → None ≡ naturals_fault 8 many part → steps ≡ numbers_in 8 many part
    → first ≡ cast_signed w64 (big_number 8 bytes) → fault ≡ last_fault 63 first steps
    → fault ≡ rising_fault w64 count bytes
last_refused count many bytes part steps first fault long more is none steps_are first_is last =
    let less : many ≡ count - 1 = omega (arith, more) in
    last
    ∙ ap₂ (λ (z : ℤ) (ns : List ℕ). last_fault 63 z ns) first_is
    (steps_are ∙ ap₂ (λ (n : ℕ) (bs : List ℕ). numbers_in 8 n bs) less is)
    ∙ ap (λ (f : Option ChunkFault). first_fault f (last_fault 63
    (cast_signed w64 (big_number 8 bytes)) (numbers_in 8 (count - 1) (drop 8 bytes))))
    (none ∙ ap₂ (λ (n : ℕ) (bs : List ℕ). naturals_fault 8 n bs) less is)
    ∙ sym (rising_behind count bytes long)

-- Tests of the last value.
pub fits_below : (z : ℤ) → FitsSigned w64 z → z <ℤ pos (2 ^ 63)
fits_below z fits = omega (arith, ints)

below_fits : (first : ℤ) (n : ℕ) → FitsSigned w64 first → (first +ℤ pos n) <ℤ pos (2 ^ 63)
    → FitsSigned w64 (first +ℤ pos n)
below_fits first n fits low = first_of (omega (arith, ints), grind (arith, ints))

pub last_passed : (first : ℤ) (steps : List ℕ) → FitsSigned w64 first
    → last_fault 63 first steps ≡ None → FitsSigned w64 (first +ℤ pos (sum steps))
last_passed first steps fits none =
    by_lt_z (first +ℤ pos (sum steps)) (pos (2 ^ 63)) (below_fits first (sum steps) fits)
    (λ high. absurd (some_not_none (sym (last_left 63 first steps high) ∙ none)))
