-- The laws of reading a chunk of numbers.
use Rattle.std.proofs.Common.{◌≡◌, ℕ, ◌<◌, Bool, true, false, List, [], ◌∷◌}
use Rattle.std.proofs.Common.{ℤ, pos, negsuc, ◌-ℤ◌, All, FitsSigned, None, Some, length, get_or}
use Rattle.std.proofs.Common.{map}
use Rattle.std.proofs.Common.{drop, refl, sym, ap, ap₂, ◌∙◌, arith, inl, inr, eq-eqb}
use Rattle.std.proofs.Common.{unsigned_abs}
use Rattle.std.specs.Int.{w64}
use Rattle.std.specs.Prelude.{◌==◌, ◌&&◌, if◌then◌else◌, nat_lt, not}
use Rattle.std.proofs.lemmas.Bool.{cases_Bool, eqb-true, ltb-true}
use Rattle.std.proofs.lemmas.Int.{ints}
use Rattle.std.proofs.lemmas.List.Elements.{All-cons, All-contains, All-head, All-nil, All-tail}
use Rattle.typed_chunk.specs.Flags.{all_have, some_has}
use Rattle.typed_chunk.specs.Frame.{frame, frame_fault, frame_values, height, least_value}
use Rattle.typed_chunk.specs.Frame.{signed_word}
use Rattle.typed_chunk.specs.Headed.{first_fault}
use Rattle.typed_chunk.specs.NumberChunk.{filled, number_kind, rises_shorter, values_bytes}
use Rattle.typed_chunk.specs.NumberChunk.{with_unset}
use Rattle.typed_chunk.specs.NumberReading.{heights_set, kind_fault, may_rise, packed_fault}
use Rattle.typed_chunk.specs.NumberReading.{values_fault}
use Rattle.typed_chunk.specs.Places.{are_zeros}
use Rattle.typed_chunk.specs.Rising.{IsRising, rises, rising}
use Rattle.typed_chunk.specs.declared.fault.ChunkFault.{ChunkFault}
use Rattle.typed_chunk.specs.declared.fault.ChunkFault.TheVariants.{NotShortestKind}
use Rattle.typed_chunk.specs.declared.fault.ChunkFault.TheVariants.{NumberOfNoValue, WrongLength}
use Rattle.typed_chunk.proofs.EntryLaws.{back_true, both, front_true}
use Rattle.typed_chunk.proofs.FrameLaws.{least_among}
use Rattle.typed_chunk.proofs.HeadedLaws.{some_not_none}
use Rattle.typed_chunk.proofs.ValueLaws.{length-unset}
use Rattle.typed_vector.specs.ZoneMap.{set_values}

-- The two kinds.
pub kind_1 : (all : Bool) (values : List ℤ) → rises_shorter all values ≡ true
    → number_kind all values ≡ 1 ∷ rising w64 values
kind_1 all values is =
    ap (λ (b : Bool). if b then 1 ∷ rising w64 values else 0 ∷ frame (signed_word w64) values) is

pub kind_0 : (all : Bool) (values : List ℤ) → rises_shorter all values ≡ false
    → number_kind all values ≡ 0 ∷ frame (signed_word w64) values
kind_0 all values is =
    ap (λ (b : Bool). if b then 1 ∷ rising w64 values else 0 ∷ frame (signed_word w64) values) is

first_byte : (x y : ℕ) (xs ys : List ℕ) → x ∷ xs ≡ y ∷ ys → x ≡ y
first_byte x y xs ys is = ap (λ (ns : List ℕ). get_or ns 0 0) is

pub from_kind_0 : (all : Bool) (values : List ℤ) (kind : ℕ) (bytes : List ℕ) → kind ≡ 0
    → kind ∷ bytes ≡ number_kind all values
    → (rises_shorter all values ≡ false) × (bytes ≡ frame (signed_word w64) values)
from_kind_0 all values kind bytes none is = elim (cases_Bool (rises_shorter all values)) [
  | inl holds ↦ absurd (omega (
    arith,
    none,
    first_byte kind 1 bytes (rising w64 values) (is ∙ kind_1 all values holds),
  ))
  | inr fails ↦ (fails, ap (drop 1) (is ∙ kind_0 all values fails))
]

pub from_kind_1 : (all : Bool) (values : List ℤ) (kind : ℕ) (bytes : List ℕ) → (kind ≡ 0 → ⊥)
    → kind ∷ bytes ≡ number_kind all values
    → (rises_shorter all values ≡ true) × (bytes ≡ rising w64 values) × (kind ≡ 1)
from_kind_1 all values kind bytes some is = elim (cases_Bool (rises_shorter all values)) [
  | inl holds ↦ (
    holds,
    ap (drop 1) (is ∙ kind_1 all values holds),
    first_byte kind 1 bytes (rising w64 values) (is ∙ kind_1 all values holds),
  )
  | inr fails ↦
      absurd (some (first_byte kind 0 bytes (frame (signed_word w64) values)
      (is ∙ kind_0 all values fails)))
]

-- What values are that take fewer bytes as rising ones.
pub shorter_all : (all : Bool) (values : List ℤ) → rises_shorter all values ≡ true → all ≡ true
shorter_all all values is =
    front_true all (nat_lt 1 (length values) && (rises values
    && nat_lt (length (rising w64 values)) (length (frame (signed_word w64) values)))) is

pub shorter_two_up : (all : Bool) (values : List ℤ) → rises_shorter all values ≡ true
    → (1 < length values) × (rises values ≡ true)
shorter_two_up all values is =
    let behind = back_true all (nat_lt 1 (length values) && (rises values
    && nat_lt (length (rising w64 values)) (length (frame (signed_word w64) values)))) is in
    let more = rises values
    && nat_lt (length (rising w64 values)) (length (frame (signed_word w64) values)) in (
      ltb-true 1 (length values) (front_true (nat_lt 1 (length values)) more behind),
      front_true (rises values)
          (nat_lt (length (rising w64 values)) (length (frame (signed_word w64) values)))
          (back_true (nat_lt 1 (length values)) more behind),
    )

-- Values that are not set are the least of the others if they are 0 above it.
abs_zero : (z : ℤ) → unsigned_abs z ≡ 0 → z ≡ pos 0
abs_zero (pos n) none = ap pos none
abs_zero (negsuc n) none = absurd (omega (arith, none))

zeros_unset : (least : ℤ) (values : List ℤ) (has : List Bool) → length values ≡ length has
    → are_zeros (map (height least) values) has ≡ true → values ≡ with_unset least values has
zeros_unset least [] has many zeros = refl
zeros_unset least (value ∷ values) [] many zeros = absurd (omega (arith, many))
zeros_unset least (value ∷ values) (true ∷ has) many zeros =
    ap (λ (vs : List ℤ). value ∷ vs) (zeros_unset least values has (omega (arith, many)) zeros)
zeros_unset least (value ∷ values) (false ∷ has) many zeros =
    let none : height least value ≡ 0 =
    eqb-true (height least value) 0
    (front_true (height least value == 0) (are_zeros (map (height least) values) has) zeros) in
    let same : value -ℤ least ≡ pos 0 = abs_zero (value -ℤ least) none in
    let is : value ≡ least = omega (arith, ints) in
    ap₂ (λ (v : ℤ) (vs : List ℤ). v ∷ vs) is
    (zeros_unset least values has (omega (arith, many))
    (back_true (height least value == 0) (are_zeros (map (height least) values) has) zeros))

unset_zeros : (least : ℤ) (values : List ℤ) (has : List Bool) → length values ≡ length has
    → values ≡ with_unset least values has → are_zeros (map (height least) values) has ≡ true
unset_zeros least [] has many is = refl
unset_zeros least (value ∷ values) [] many is = absurd (omega (arith, many))
unset_zeros least (value ∷ values) (true ∷ has) many is =
    unset_zeros least values has (omega (arith, many)) (ap (drop 1) is)
unset_zeros least (value ∷ values) (false ∷ has) many is =
    let first : value ≡ least = ap (λ (vs : List ℤ). get_or vs 0 (pos 0)) is in
    let none : value -ℤ least ≡ pos 0 = omega (arith, ints) in
    both (height least value == 0) (are_zeros (map (height least) values) has)
    (eq-eqb (height least value) 0 (ap unsigned_abs none))
    (unset_zeros least values has (omega (arith, many)) (ap (drop 1) is))

pub zeros_filled : (values : List ℤ) (has : List Bool) → length values ≡ length has
    → are_zeros (heights_set values has) has ≡ true → values ≡ filled values has
zeros_filled values has many zeros =
    zeros_unset (least_value (set_values values has)) values has many zeros

pub filled_zeros : (values : List ℤ) (has : List Bool) → length values ≡ length has
    → values ≡ filled values has → are_zeros (heights_set values has) has ≡ true
filled_zeros values has many is =
    unset_zeros (least_value (set_values values has)) values has many is

-- The cases of a check of values that were read as a frame.
pub packed_zeros : (has : List Bool) (values : List ℤ) (zeros : Bool)
    → zeros ≡ are_zeros (heights_set values has) has → zeros ≡ false
    → packed_fault has values ≡ Some NumberOfNoValue
packed_zeros has values zeros is none =
    let other : are_zeros (heights_set values has) has ≡ false = sym is ∙ none in
    rw other refl

pub packed_short : (has : List Bool) (values : List ℤ) (zeros short : Bool)
    → zeros ≡ are_zeros (heights_set values has) has → zeros ≡ true
    → short ≡ rises_shorter (all_have has) values → short ≡ true
    → packed_fault has values ≡ Some NotShortestKind
packed_short has values zeros short is all same holds =
    ap₂ (λ (a b : Bool).
    if not a then Some NumberOfNoValue else if b then Some NotShortestKind else None)
    (sym is ∙ all) (sym same ∙ holds)

pub packed_kept : (has : List Bool) (values : List ℤ) (zeros short : Bool)
    → zeros ≡ are_zeros (heights_set values has) has → zeros ≡ true
    → short ≡ rises_shorter (all_have has) values → short ≡ false
    → packed_fault has values ≡ None
packed_kept has values zeros short is all same fails =
    ap₂ (λ (a b : Bool).
    if not a then Some NumberOfNoValue else if b then Some NotShortestKind else None)
    (sym is ∙ all) (sym same ∙ fails)

two_passed : (one two : ChunkFault) (a b : Bool)
    → (if not a then Some one else if b then Some two else None) ≡ None
    → (a ≡ true) × (b ≡ false)
two_passed one two false b none = absurd (some_not_none none)
two_passed one two true true none = absurd (some_not_none none)
two_passed one two true false none = (refl, refl)

pub packed_passed : (has : List Bool) (values : List ℤ) → packed_fault has values ≡ None
    → (are_zeros (heights_set values has) has ≡ true)
    × (rises_shorter (all_have has) values ≡ false)
packed_passed has values none =
    two_passed _ _ (are_zeros (heights_set values has) has)
    (rises_shorter (all_have has) values) none

-- Values that were filled are filled, and fit.
set_unset : (least : ℤ) (values : List ℤ) (has : List Bool)
    → set_values (with_unset least values has) has ≡ set_values values has
set_unset least [] has = refl
set_unset least (value ∷ values) [] = refl
set_unset least (value ∷ values) (true ∷ has) =
    ap (λ (vs : List ℤ). value ∷ vs) (set_unset least values has)
set_unset least (value ∷ values) (false ∷ has) = set_unset least values has

twice_unset : (least : ℤ) (values : List ℤ) (has : List Bool)
    → with_unset least (with_unset least values has) has ≡ with_unset least values has
twice_unset least [] has = refl
twice_unset least (value ∷ values) [] = refl
twice_unset least (value ∷ values) (true ∷ has) =
    ap (λ (vs : List ℤ). value ∷ vs) (twice_unset least values has)
twice_unset least (value ∷ values) (false ∷ has) =
    ap (λ (vs : List ℤ). least ∷ vs) (twice_unset least values has)

pub twice_filled : (values : List ℤ) (has : List Bool)
    → filled (filled values has) has ≡ filled values has
twice_filled values has =
    let least = least_value (set_values values has) in
    ap (λ (vs : List ℤ). with_unset (least_value vs) (with_unset least values has) has)
    (set_unset least values has)
    ∙ twice_unset least values has

set_fit : (P : ℤ → Type 0) (values : List ℤ) (has : List Bool) → All P values
    → All P (set_values values has)
set_fit P [] has all = All-nil P
set_fit P (value ∷ values) [] all = All-nil P
set_fit P (value ∷ values) (true ∷ has) all =
    All-cons P value (set_values values has) (All-head P value values all)
    (set_fit P values has (All-tail P value values all))
set_fit P (value ∷ values) (false ∷ has) all = set_fit P values has (All-tail P value values all)

unset_fit : (P : ℤ → Type 0) (least : ℤ) (values : List ℤ) (has : List Bool) → P least
    → All P values → All P (with_unset least values has)
unset_fit P least [] has low all = All-nil P
unset_fit P least (value ∷ values) [] low all = All-nil P
unset_fit P least (value ∷ values) (true ∷ has) low all =
    All-cons P value (with_unset least values has) (All-head P value values all)
    (unset_fit P least values has low (All-tail P value values all))
unset_fit P least (value ∷ values) (false ∷ has) low all =
    All-cons P least (with_unset least values has) low
    (unset_fit P least values has low (All-tail P value values all))

least_fit : (P : ℤ → Type 0) (values : List ℤ) → P (pos 0) → All P values
    → P (least_value values)
least_fit P [] zero_fits all = zero_fits
least_fit P (value ∷ values) zero_fits all =
    All-contains P (value ∷ values) (least_value (value ∷ values)) all
    (least_among (value ∷ values) (omega arith))

zero_fits_64 : FitsSigned w64 (pos 0)
zero_fits_64 = omega (arith, ints)

pub filled_fit : (values : List ℤ) (has : List Bool) → All (FitsSigned w64) values
    → All (FitsSigned w64) (filled values has)
filled_fit values has all =
    let P : ℤ → Type 0 = FitsSigned w64 in
    unset_fit P (least_value (set_values values has)) values has
    (least_fit P (set_values values has) zero_fits_64 (set_fit P values has all)) all

pub length-filled : (values : List ℤ) (has : List Bool) → length values ≡ length has
    → length (filled values has) ≡ length has
length-filled values has many =
    length-unset (least_value (set_values values has)) values has many ∙ many

-- The bytes behind the flags.
pub bytes_some : (values : List ℤ) (has : List Bool) → some_has has ≡ true
    → values_bytes values has ≡ number_kind (all_have has) (filled values has)
bytes_some values has some =
    ap (λ (b : Bool). if b then number_kind (all_have has) (filled values has) else []) some

-- What a frame's kind is refused for.
pub kind_fault_0 : (has : List Bool) (kind : ℕ) (bytes : List ℕ) → kind ≡ 0
    → kind_fault has kind bytes ≡ first_fault (frame_fault w64 (length has) bytes)
    (packed_fault has (frame_values w64 (length has) bytes))
kind_fault_0 has kind bytes is = rw (eq-eqb kind 0 is) refl

-- Values that were written as rising ones rise.
pub risen : (has : List Bool) (values : List ℤ) (bytes : List ℕ)
    → rises_shorter (all_have has) values ≡ true → bytes ≡ rising w64 values
    → IsRising w64 values bytes × (rises_shorter true values ≡ true)
risen has values bytes is same =
    let parts = shorter_two_up (all_have has) values is in (
      record { two = parts.0; up = parts.1; same = same },
      ap (λ (b : Bool). rises_shorter b values) (sym (shorter_all (all_have has) values is)) ∙ is,
    )

-- All rows have a value, so none is filled.
all_unset : (least : ℤ) (values : List ℤ) (has : List Bool) → length values ≡ length has
    → all_have has ≡ true → values ≡ with_unset least values has
all_unset least [] has many all = refl
all_unset least (value ∷ values) [] many all = absurd (omega (arith, many))
all_unset least (value ∷ values) (true ∷ has) many all =
    ap (λ (vs : List ℤ). value ∷ vs) (all_unset least values has (omega (arith, many)) all)
all_unset least (value ∷ values) (false ∷ has) many all = cc

pub all_filled : (values : List ℤ) (has : List Bool) → length values ≡ length has
    → may_rise has ≡ true → values ≡ filled values has
all_filled values has many may =
    all_unset (least_value (set_values values has)) values has many
    (front_true (all_have has) (nat_lt 1 (length has)) may)

-- Bytes behind the flags of rows of which one has a value.
pub values_some : (has : List Bool) (kind : ℕ) (bytes : List ℕ) → some_has has ≡ true
    → values_fault has (kind ∷ bytes) ≡ kind_fault has kind bytes
values_some has kind bytes some =
    ap (λ (b : Bool). if b then kind_fault has kind bytes else Some WrongLength) some
