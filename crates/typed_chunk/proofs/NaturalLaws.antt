-- The laws of frames of numbers that are not negative.
use Rattle.std.proofs.Common.{◌≡◌, ℕ, zero, suc, ◌+◌, ◌-◌, ◌*◌, ◌^◌, ◌<◌, ◌≤◌, true, List, []}
use Rattle.std.proofs.Common.{◌∷◌, ℤ, pos, ◌-ℤ◌, ◌≤ℤ◌, All, fold, map}
use Rattle.std.proofs.Common.{min, length, get_or, drop, take, refl, sym, ap, ap₂, subst, ◌∙◌}
use Rattle.std.proofs.Common.{arith}
use Rattle.std.proofs.Common.{unsigned_abs, Some, None, inl, inr, le-ltb, lt-ltb}
use Rattle.std.specs.Int.{int_min}
use Rattle.std.proofs.Math.Nat.{pow-le-pow_right}
use Rattle.std.proofs.lemmas.Bool.{cases_lt}
use Rattle.std.proofs.lemmas.Int.{ints}
use Rattle.std.proofs.lemmas.List.{get_or_default, length-drop, length-map}
use Rattle.std.proofs.lemmas.List.Elements.{All-from_get_or, All-head}
use Rattle.std.proofs.lemmas.List.Elements.{All-map, All-tail}
use Rattle.byteorder.specs.Endian.{big_number}
use Rattle.byteorder.specs.Numbers.{big_number-reads_back}
use Rattle.typed_chunk.specs.Frame.{IsFrame, height, heights, least_number, least_value}
use Rattle.typed_chunk.specs.Frame.{range_fault}
use Rattle.typed_chunk.specs.Frame.{unsigned_word, value_at_height}
use Rattle.typed_chunk.specs.Headed.{IsHeaded, greatest, has_0, headed, width_of}
use Rattle.typed_chunk.specs.Packed.{packed}
use Rattle.typed_chunk.specs.declared.fault.ChunkFault.TheVariants.{ValueOutOfRange}
use Rattle.typed_chunk.proofs.DigitLaws.{Below, Below-drop}
use Rattle.typed_chunk.proofs.FrameLaws.{frame_headed, greatest_has, headed_frame}
use Rattle.typed_chunk.proofs.FrameLaws.{least_bounds}
use Rattle.typed_chunk.proofs.HeadedLaws.{some_not_none, up_to_greatest}
use Rattle.typed_chunk.proofs.HighFirstLaws.{high_bytes-number}
use Rattle.typed_chunk.proofs.PackedLaws.{bytes-bits}

-- The least of numbers.
min_pos : (m n : ℕ) → int_min (pos m) (pos n) ≡ pos (min m n)
min_pos m n = elim (cases_lt n m) [
  | inl low ↦
      let same : n ≡ min m n = omega (arith, low) in
      rw (lt-ltb n m low) (ap pos same)
  | inr high ↦
      let same : m ≡ min m n = omega (arith, high) in
      rw (le-ltb n m high) (ap pos same)
]

least_pos_from : (first : ℕ) (numbers : List ℕ)
    → fold int_min (pos first) (map pos numbers) ≡ pos (fold min first numbers)
least_pos_from first [] = refl
least_pos_from first (number ∷ numbers) =
    ap (λ (z : ℤ). fold int_min z (map pos numbers)) (min_pos first number)
    ∙ least_pos_from (min first number) numbers

pub least_pos : (numbers : List ℕ) → pos (least_number numbers) ≡ least_value (map pos numbers)
least_pos [] = refl
least_pos (first ∷ numbers) = sym (least_pos_from first numbers)

below_at : (least : ℕ) (numbers : List ℕ) (i : ℕ) → i < length numbers
    → All (λ value. pos least ≤ℤ value) (map pos numbers) → least ≤ get_or numbers i 0
below_at least [] i inside all = absurd (omega (arith, inside))
below_at least (number ∷ numbers) zero inside all =
    let low = All-head (λ value. pos least ≤ℤ value) (pos number) (map pos numbers) all in
    omega (arith, ints, low)
below_at least (number ∷ numbers) (suc i) inside all =
    below_at least numbers i (omega (arith, inside))
    (All-tail (λ value. pos least ≤ℤ value) (pos number) (map pos numbers) all)

pub least_below : (least : ℕ) (numbers : List ℕ) → pos least ≡ least_value (map pos numbers)
    → All (λ number. least ≤ number) numbers
least_below least numbers is =
    let bounds = least_bounds (map pos numbers) in
    All-from_get_or (λ number. least ≤ number) numbers 0
    (λ i inside. below_at least numbers i inside
    (subst (λ z. All (λ value. z ≤ℤ value) (map pos numbers)) (sym is) bounds))

-- The heights of numbers.
height_pos : (least number : ℕ) → least ≤ number → height (pos least) (pos number) ≡ number - least
height_pos least number low =
    let same : pos number -ℤ pos least ≡ pos (number - least) = omega (arith, ints, low) in
    ap unsigned_abs same

pub heights_pos : (least : ℕ) (numbers : List ℕ) → All (λ number. least ≤ number) numbers
    → map (height (pos least)) (map pos numbers) ≡ map (λ number. number - least) numbers
heights_pos least [] low = refl
heights_pos least (number ∷ numbers) low =
    ap₂ (λ (x : ℕ) (xs : List ℕ). x ∷ xs)
    (height_pos least number (All-head (λ n. least ≤ n) number numbers low))
    (heights_pos least numbers (All-tail (λ n. least ≤ n) number numbers low))

pub values_pos : (least : ℕ) (codes : List ℕ)
    → map (value_at_height (pos least)) codes ≡ map pos (map (λ code. least + code) codes)
values_pos least [] = refl
values_pos least (code ∷ codes) =
    ap (λ (xs : List ℤ). pos (least + code) ∷ xs) (values_pos least codes)

pub raised : (least : ℕ) (numbers : List ℕ) → All (λ number. least ≤ number) numbers
    → map (λ code. least + code) (map (λ number. number - least) numbers) ≡ numbers
raised least [] low = refl
raised least (number ∷ numbers) low =
    let first = All-head (λ n. least ≤ n) number numbers low in
    ap₂ (λ (x : ℕ) (xs : List ℕ). x ∷ xs) (omega (arith, first))
    (raised least numbers (All-tail (λ n. least ≤ n) number numbers low))

-- The bytes of numbers, by the least of them.
pub frame_pos : (size least : ℕ) (numbers : List ℕ) → pos least ≡ least_value (map pos numbers)
    → headed (unsigned_word size (pos least)) (map (λ number. number - least) numbers)
    ≡ headed (unsigned_word size (least_value (map pos numbers))) (heights (map pos numbers))
frame_pos size least numbers is =
    let low = least_below least numbers is in
    ap₂ (λ (hs cs : List ℕ). headed hs cs) (ap (unsigned_word size) is)
    (sym (heights_pos least numbers low)
    ∙ ap (λ (z : ℤ). map (height z) (map pos numbers)) is)

-- Tests of the greatest number.
pub size_kept : (size least : ℕ) (codes : List ℕ) → least + greatest codes < 2 ^ size
    → range_fault size (pos least) codes ≡ None
size_kept size least codes low =
    rw (lt-ltb (least + greatest codes) (2 ^ size) low) refl

pub size_left : (size least : ℕ) (codes : List ℕ) → 2 ^ size ≤ least + greatest codes
    → range_fault size (pos least) codes ≡ Some ValueOutOfRange
size_left size least codes high =
    rw (le-ltb (least + greatest codes) (2 ^ size) high) refl

pub size_passed : (size least : ℕ) (codes : List ℕ) → range_fault size (pos least) codes ≡ None
    → All (λ code. least + code < 2 ^ size) codes
size_passed size least codes none = elim (cases_lt (least + greatest codes) (2 ^ size)) [
  | inl low ↦ λ k d inside.
      let same = get_or_default codes k d 0 inside in
      let most = up_to_greatest codes k in
      omega (arith, low, same, most)
  | inr high ↦ absurd (some_not_none (sym (size_left size least codes high) ∙ none))
]

-- Numbers of at most 8 bytes have at most 64 bits.
pub within_64 : (size n : ℕ) → size ≤ 8 → n < 256 ^ size → n < 2 ^ 64
within_64 size n short low =
    let up : 256 ^ size ≤ 256 ^ 8 = pow-le-pow_right (omega arith) short in
    omega (arith, low, up)

pub sum_within_64 : (size least : ℕ) (codes : List ℕ) → size ≤ 8
    → range_fault (8 * size) (pos least) codes ≡ None → All (λ code. least + code < 2 ^ 64) codes
sum_within_64 size least codes short none k d inside =
    let low = size_passed (8 * size) least codes none k d inside in
    within_64 size (least + get_or codes k d) short
    (subst (λ n. least + get_or codes k d < n) (sym (bytes-bits size)) low)

-- What the bytes of numbers say of the least of them and of their codes.
pub record NaturalParts (size : ℕ) (numbers bytes : List ℕ) : Type 0 where
  pub least : ℕ
  pub is : pos least ≡ least_value (map pos numbers)
  pub low : All (λ number. least ≤ number) numbers
  pub read : big_number size (drop 1 bytes) ≡ least
  pub codes : IsHeaded (unsigned_word size (pos least))
      (map (λ number. number - least) numbers) bytes
  pub top : least + greatest (map (λ number. number - least) numbers) < 256 ^ size

pub natural_parts : (size : ℕ) (numbers bytes : List ℕ)
    → All (λ number. number < 256 ^ size) numbers
    → IsFrame (unsigned_word size) (map pos numbers) bytes → NaturalParts size numbers bytes
natural_parts size numbers bytes fit are =
    let some : 0 < length numbers = omega (arith, are.some, length-map numbers pos) in
    let least = least_number numbers in
    let is = least_pos numbers in
    let low = least_below least numbers is in
    let codes = map (λ number. number - least) numbers in
    let is_headed = frame_headed (unsigned_word size) (map pos numbers) bytes are in
    let same : bytes ≡ headed (unsigned_word size (pos least)) codes =
    are.same ∙ sym (frame_pos size least numbers is) in
    let tops : All (λ code. least + code < 256 ^ size) codes =
    All-map (λ code. least + code < 256 ^ size) (λ number. number - least) numbers
    (λ k d inside. omega (arith, low k d inside, fit k d inside)) in
    let least_fits : least < 256 ^ size =
    omega (arith, low 0 0 some, fit 0 0 some) in
    record {
      least = least;
      is = is;
      low = low;
      read = ap (λ (bs : List ℕ). big_number size (drop 1 bs)) same
          ∙ big_number-reads_back size least (packed (width_of codes) codes) least_fits;
      codes = record {
        same = same;
        from_0 = subst (λ cs. has_0 cs ≡ true)
            (ap (λ (z : ℤ). map (height z) (map pos numbers)) (sym is)
            ∙ heights_pos least numbers low) is_headed.from_0;
      };
      top = greatest_has (λ code. least + code < 256 ^ size) codes (omega (arith, least_fits)) tops;
    }

-- Codes behind a least number are numbers.
pub natural_read : (size : ℕ) (codes bytes : List ℕ) → Below 256 bytes → size < length bytes
    → IsHeaded (take size (drop 1 bytes)) codes bytes
    → IsFrame (unsigned_word size)
    (map pos (map (λ code. big_number size (drop 1 bytes) + code) codes)) bytes
natural_read size codes bytes below long are =
    let rest = drop 1 bytes in
    let least = big_number size rest in
    let enough : size ≤ length rest = omega (arith, long, length-drop 1 bytes) in
    subst (λ vs. IsFrame (unsigned_word size) vs bytes) (values_pos least codes)
    (headed_frame (unsigned_word size) (pos least) (take size rest) codes bytes are
    (sym (high_bytes-number size rest (Below-drop 256 1 bytes below) enough)))

-- The cases of a test.
pub ruleset size_tests = (size_kept, size_left)
