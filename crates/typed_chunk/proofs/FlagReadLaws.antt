-- The laws of reading flags.
use Rattle.std.proofs.Common.{◌≡◌, ℕ, ◌<◌, ◌≤◌, ◌^◌, Bool, true, false, List, [], ◌∷◌, ◌++◌}
use Rattle.std.proofs.Common.{Option, Some, None, cond, get_or, length, drop, take}
use Rattle.std.proofs.Common.{take-append-drop, refl}
use Rattle.std.proofs.Common.{◌∙◌, ap, ap₂, arith, inl, inr, le-ltb, sym}
use Rattle.std.specs.Prelude.{◌==◌}
use Rattle.std.proofs.lemmas.Bool.{cases_Bool, false≢true}
use Rattle.std.proofs.lemmas.List.{drop_at, length-append, length-map, take-append-le, take_all}
use Rattle.typed_chunk.specs.Digits.{digits, number}
use Rattle.typed_chunk.specs.Flags.{all_have, bits_fault, bits_in, flag_bits, flags, rows_of}
use Rattle.typed_chunk.specs.Flags.{some_fault, some_has}
use Rattle.typed_chunk.specs.Headed.{first_fault}
use Rattle.typed_chunk.specs.Packed.{ArePacked, codes_fault, packed, packed_len}
use Rattle.typed_chunk.specs.declared.fault.ChunkFault.{ChunkFault}
use Rattle.typed_chunk.specs.declared.fault.ChunkFault.TheVariants.{NotSomeFlags}
use Rattle.typed_chunk.proofs.DigitLaws.{length-digits}
use Rattle.typed_chunk.proofs.FlagLaws.{are_bits, begins_2, bits-rows, flags_some}
use Rattle.typed_chunk.proofs.HeadedLaws.{some_not_none}
use Rattle.typed_chunk.proofs.UnpackedLaws.{written}

-- Some rows have a value, and some have none.
some_kept : (has : List Bool) → some_has has ≡ true → all_have has ≡ false
    → some_fault has ≡ None
some_kept has some few = rw (some, few) refl

none_left : (has : List Bool) → some_has has ≡ false → some_fault has ≡ Some NotSomeFlags
none_left has none = rw none refl

all_left : (has : List Bool) → some_has has ≡ true → all_have has ≡ true
    → some_fault has ≡ Some NotSomeFlags
all_left has some all = rw (some, all) refl

some_cases : (has : List Bool) → some_fault has ≡ None
    → (some_has has ≡ true) × (all_have has ≡ false)
some_cases has ok = elim (cases_Bool (some_has has)) [
  | inr none ↦ absurd (some_not_none (sym (none_left has none) ∙ ok))
  | inl some ↦ elim (cases_Bool (all_have has)) [
    | inl all ↦ absurd (some_not_none (sym (all_left has some all) ∙ ok))
    | inr few ↦ (some, few)
  ]
]

-- What bytes that begin with bits say of their parts.
pub record BitsParts (has : List Bool) (bytes rest : List ℕ) : Type 0 where
  pub long : packed_len 1 (length has) ≤ length bytes
  pub packed : ArePacked 1 (flag_bits has) (take (packed_len 1 (length has)) bytes)
  pub behind : drop (packed_len 1 (length has)) bytes ≡ rest
  pub some : some_fault has ≡ None

pub bits_parts : (has : List Bool) (bytes rest : List ℕ) → 2 ∷ bytes ≡ flags has ++ rest
    → BitsParts has bytes rest
bits_parts has bytes rest e =
    let are = begins_2 has bytes rest e in
    let front = packed 1 (flag_bits has) in
    let size = packed_len 1 (length has) in
    let many : length (flag_bits has) ≡ length has = length-map has (λ flag. cond flag 1 0) in
    let long : length front ≡ size =
    length-digits 256 (packed_len 1 (length (flag_bits has))) (number (2 ^ 1) (flag_bits has))
    ∙ ap (packed_len 1) many in
    let first : take size bytes ≡ front =
    ap (take size) are.same ∙ take-append-le size front rest (omega (arith, long))
    ∙ take_all size front (omega (arith, long)) in
    record {
      long = omega (arith, ap length are.same, length-append front rest, long);
      packed = record { fit = are_bits has; same = first };
      behind = ap (drop size) are.same ∙ ap (λ (k : ℕ). drop k (front ++ rest)) (sym long)
          ∙ drop_at front rest (length front) refl;
      some = some_kept has are.some are.few;
    }

-- Bits that were read, and what is behind them, are flags and what is behind them.
pub bits_read : (size : ℕ) (codes bytes : List ℕ) → ArePacked 1 codes (take size bytes)
    → some_fault (rows_of codes) ≡ None
    → 2 ∷ bytes ≡ flags (rows_of codes) ++ drop size bytes
bits_read size codes bytes are ok =
    let has = rows_of codes in
    let cases = some_cases has ok in
    let bits : flag_bits has ≡ codes = bits-rows codes are.fit in
    let front : flags has ≡ 2 ∷ take size bytes =
    flags_some has cases.0 cases.1
    ∙ ap (λ (xs : List ℕ). 2 ∷ xs) (ap (packed 1) bits ∙ sym are.same) in
    sym (ap (λ (xs : List ℕ). xs ++ drop size bytes) front
    ∙ ap (λ (xs : List ℕ). 2 ∷ xs) (take-append-drop size bytes))

-- The fault of bytes that have enough bits.
bits_behind : (count : ℕ) (bytes : List ℕ) → packed_len 1 count ≤ length bytes
    → bits_fault count bytes ≡ first_fault (codes_fault 1 count (take (packed_len 1 count) bytes))
    (some_fault (rows_of (bits_in count bytes)))
bits_behind count bytes long = rw (le-ltb (length bytes) (packed_len 1 count) long) refl

pub bits_refused : (count : ℕ) (bytes part : List ℕ) (fault : ChunkFault)
    → packed_len 1 count ≤ length bytes → part ≡ take (packed_len 1 count) bytes
    → Some fault ≡ codes_fault 1 count part → Some fault ≡ bits_fault count bytes
bits_refused count bytes part fault long is refused =
    ap (λ (f : Option ChunkFault). first_fault f (some_fault (rows_of (bits_in count bytes))))
    (refused ∙ ap (codes_fault 1 count) is)
    ∙ sym (bits_behind count bytes long)

pub some_refused : (count : ℕ) (codes bytes part : List ℕ) (fault : Option ChunkFault)
    → packed_len 1 count ≤ length bytes → part ≡ take (packed_len 1 count) bytes
    → length codes ≡ count → None ≡ codes_fault 1 count part → ArePacked 1 codes part
    → fault ≡ some_fault (rows_of codes) → fault ≡ bits_fault count bytes
some_refused count codes bytes part fault long is many none are some =
    let read : codes ≡ bits_in count bytes =
    sym (written 1 codes part are).back
    ∙ ap₂ (λ (n : ℕ) (bs : List ℕ). digits 2 n (number 256 bs)) many is in
    some ∙ ap (λ (cs : List ℕ). some_fault (rows_of cs)) read
    ∙ ap (λ (f : Option ChunkFault). first_fault f (some_fault (rows_of (bits_in count bytes))))
    (none ∙ ap (codes_fault 1 count) is)
    ∙ sym (bits_behind count bytes long)

-- Bytes by the first of them.
pub first_rest : (bytes : List ℕ) → 0 < length bytes → get_or bytes 0 0 ∷ drop 1 bytes ≡ bytes
first_rest [] some = absurd (omega (arith, some))
first_rest (x ∷ bytes) some = refl

pub some_bytes : (bytes : List ℕ) (empty : Bool) → empty ≡ (length bytes == 0) → empty ≡ false
    → 0 < length bytes
some_bytes [] empty is test = absurd (false≢true (sym test ∙ is))
some_bytes (x ∷ bytes) empty is test = omega arith
