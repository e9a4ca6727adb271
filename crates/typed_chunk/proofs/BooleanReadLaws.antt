-- The laws of reading chunks of booleans.
use Rattle.std.proofs.Common.{◌≡◌, ℕ, zero, suc, ◌+◌, ◌<◌, ◌≤◌, ◌^◌, Bool, true, false, List, []}
use Rattle.std.proofs.Common.{◌∷◌, All, None, Some, cond, length, get_or, drop, map, pos, refl, sym}
use Rattle.std.proofs.Common.{ap, ap₂, ◌∙◌, arith, inl, inr, ℤ}
use Rattle.std.specs.List.{list_all}
use Rattle.std.specs.Prelude.{◌&&◌, ◌==◌, if◌then◌else◌, nat_lt, not}
use Rattle.std.proofs.lemmas.Bool.{cases_Bool, eq-eqb, false≢true, ltb-true, ne_eqb}
use Rattle.std.proofs.lemmas.List.{drop_all, drop_more, length-map}
use Rattle.std.proofs.lemmas.List.Elements.{All-cons, All-nil}
use Rattle.typed_chunk.specs.BooleanChunk.{all_unset, boolean_bytes, booleans_fault}
use Rattle.typed_chunk.specs.BooleanChunk.{numbers_fault, numbers_of, unset_least}
use Rattle.typed_chunk.specs.Flags.{all_have, rows_of, some_has}
use Rattle.typed_chunk.specs.Frame.{IsFrame, frame, naturals_fault, numbers_in, unsigned_word}
use Rattle.typed_chunk.specs.Headed.{first_fault}
use Rattle.typed_chunk.specs.NumberChunk.{filled, with_unset}
use Rattle.typed_chunk.specs.declared.fault.ChunkFault.TheVariants.{NoSuchKind, NumberOfNoValue}
use Rattle.typed_chunk.specs.declared.fault.ChunkFault.TheVariants.{ValueOutOfRange, WrongLength}
use Rattle.typed_chunk.proofs.BooleanLaws.{least_of_set}
use Rattle.typed_chunk.proofs.EntryLaws.{back_true, both, front_true}
use Rattle.typed_chunk.proofs.HeadedLaws.{some_not_none}
use Rattle.typed_vector.specs.ZoneMap.{set_values}

-- Whether a boolean is the least.
same_cond : (least value : Bool) → value ≡ least → cond least value (not value) ≡ true
same_cond true value is = is
same_cond false true is = absurd (false≢true (sym is))
same_cond false false is = refl

other_cond : (least value : Bool) → (value ≡ least → ⊥) → cond least value (not value) ≡ false
other_cond true true other = absurd (other refl)
other_cond true false other = refl
other_cond false true other = refl
other_cond false false other = absurd (other refl)

cond_same : (least value : Bool) → cond least value (not value) ≡ true → value ≡ least
cond_same true value is = is
cond_same false true is = absurd (false≢true is)
cond_same false false is = refl

-- Rows from one on that are not set.
here : (least : Bool) (values has : List Bool) (i : ℕ) (flag : Bool) → i < length values
    → i < length has → get_or has i false ≡ flag
    → all_unset least (drop i values) (drop i has)
    ≡ all_unset least (get_or values i false ∷ drop (i + 1) values) (flag ∷ drop (i + 1) has)
here least values has i flag inside within is =
    ap₂ (all_unset least) (drop_more values i false inside)
    (drop_more has i false within ∙ ap (λ (b : Bool). b ∷ drop (i + 1) has) is)

pub unset_set : (least : Bool) (values has : List Bool) (i : ℕ) → i < length values
    → i < length has → get_or has i false ≡ true
    → all_unset least (drop i values) (drop i has)
    ≡ all_unset least (drop (i + 1) values) (drop (i + 1) has)
unset_set least values has i inside within set = here least values has i true inside within set

pub unset_same : (least : Bool) (values has : List Bool) (i : ℕ) → i < length values
    → i < length has → get_or has i false ≡ false → get_or values i false ≡ least
    → all_unset least (drop i values) (drop i has)
    ≡ all_unset least (drop (i + 1) values) (drop (i + 1) has)
unset_same least values has i inside within unset is =
    here least values has i false inside within unset
    ∙ ap (λ (b : Bool). b && all_unset least (drop (i + 1) values) (drop (i + 1) has))
    (same_cond least (get_or values i false) is)

pub unset_other : (least : Bool) (values has : List Bool) (i : ℕ) → i < length values
    → i < length has → get_or has i false ≡ false → (get_or values i false ≡ least → ⊥)
    → all_unset least (drop i values) (drop i has) ≡ false
unset_other least values has i inside within unset other =
    here least values has i false inside within unset
    ∙ ap (λ (b : Bool). b && all_unset least (drop (i + 1) values) (drop (i + 1) has))
    (other_cond least (get_or values i false) other)

no_rows : (least : Bool) (values : List Bool) → all_unset least values [] ≡ true
no_rows least [] = refl
no_rows least (value ∷ values) = refl

pub unset_end : (least : Bool) (values has : List Bool) (i : ℕ) → length has ≤ i
    → all_unset least (drop i values) (drop i has) ≡ true
unset_end least values has i past =
    ap (all_unset least (drop i values)) (drop_all i has past) ∙ no_rows least (drop i values)

pub ruleset unset_steps = (unset_set, unset_same, unset_other, unset_end)

-- The cases of a check of numbers.
pub numbers_out : (has : List Bool) (numbers : List ℕ)
    → list_all (λ number. nat_lt number 2) numbers ≡ false
    → numbers_fault has numbers ≡ Some ValueOutOfRange
numbers_out has numbers out = rw out refl

pub numbers_left : (has values : List Bool) (numbers : List ℕ) → values ≡ rows_of numbers
    → list_all (λ number. nat_lt number 2) numbers ≡ true → unset_least values has ≡ false
    → numbers_fault has numbers ≡ Some NumberOfNoValue
numbers_left has values numbers are low other =
    ap₂ (λ (a b : Bool).
    if not a then Some ValueOutOfRange else if not b then Some NumberOfNoValue else None) low
    (ap (λ (vs : List Bool). unset_least vs has) (sym are) ∙ other)

pub numbers_kept : (has values : List Bool) (numbers : List ℕ) → values ≡ rows_of numbers
    → list_all (λ number. nat_lt number 2) numbers ≡ true → unset_least values has ≡ true
    → numbers_fault has numbers ≡ None
numbers_kept has values numbers are low same =
    ap₂ (λ (a b : Bool).
    if not a then Some ValueOutOfRange else if not b then Some NumberOfNoValue else None) low
    (ap (λ (vs : List Bool). unset_least vs has) (sym are) ∙ same)

pub ruleset number_tests = (numbers_out, numbers_left, numbers_kept)

pub numbers_passed : (has : List Bool) (numbers : List ℕ) → numbers_fault has numbers ≡ None
    → (list_all (λ number. nat_lt number 2) numbers ≡ true)
    × (unset_least (rows_of numbers) has ≡ true)
numbers_passed has numbers none =
    elim (cases_Bool (list_all (λ number. nat_lt number 2) numbers)) [
      | inr out ↦ absurd (some_not_none (sym (numbers_out has numbers out) ∙ none))
      | inl low ↦ elim (cases_Bool (unset_least (rows_of numbers) has)) [
        | inr other ↦
            let left = numbers_left has (rows_of numbers) numbers refl low other in
            absurd (some_not_none (sym left ∙ none))
        | inl same ↦ (low, same)
      ]
    ]

-- Numbers up to 1 are those of their booleans.
one_number : (n : ℕ) → nat_lt n 2 ≡ true → cond (n == 1) 1 0 ≡ n
one_number zero low = refl
one_number (suc zero) low = refl
one_number (suc (suc n)) low = absurd (omega (arith, ltb-true (suc (suc n)) 2 low))

pub rows-numbers : (numbers : List ℕ) → list_all (λ number. nat_lt number 2) numbers ≡ true
    → numbers_of (rows_of numbers) ≡ map pos numbers
rows-numbers [] low = refl
rows-numbers (n ∷ numbers) low =
    let rest = list_all (λ number. nat_lt number 2) numbers in
    ap₂ (λ (k : ℕ) (zs : List ℤ). pos k ∷ zs) (one_number n (front_true (nat_lt n 2) rest low))
    (rows-numbers numbers (back_true (nat_lt n 2) rest low))

-- Booleans of which those that are not set are the least are as they are filled.
unset_is : (least : Bool) (values has : List Bool) → length values ≡ length has
    → all_unset least values has ≡ true
    → numbers_of values ≡ with_unset (pos (cond least 1 0)) (numbers_of values) has
unset_is least [] has many all = refl
unset_is least (value ∷ values) [] many all = absurd (omega (arith, many))
unset_is least (value ∷ values) (true ∷ has) many all =
    ap (λ (zs : List ℤ). pos (cond value 1 0) ∷ zs)
    (unset_is least values has (omega (arith, many)) all)
unset_is least (value ∷ values) (false ∷ has) many all =
    let rest = all_unset least values has in
    let test = cond least value (not value) in
    ap₂ (λ (b : Bool) (zs : List ℤ). pos (cond b 1 0) ∷ zs)
    (cond_same least value (front_true test rest all))
    (unset_is least values has (omega (arith, many)) (back_true test rest all))

pub filled_is : (values has : List Bool) → length values ≡ length has → some_has has ≡ true
    → unset_least values has ≡ true → numbers_of values ≡ filled (numbers_of values) has
filled_is values has many some same =
    unset_is (all_have (set_values values has)) values has many same
    ∙ ap (λ (z : ℤ). with_unset z (numbers_of values) has) (sym (least_of_set values has many some))

-- The booleans with this one where none is set.
abbrev pub with_least : Bool → List Bool → List Bool → List Bool
with_least least [] has = []
with_least least (value ∷ values) [] = []
with_least least (value ∷ values) (true ∷ has) = value ∷ with_least least values has
with_least least (value ∷ values) (false ∷ has) = least ∷ with_least least values has

length-least : (least : Bool) (values has : List Bool) → length values ≡ length has
    → length (with_least least values has) ≡ length has
length-least least [] [] many = refl
length-least least [] (flag ∷ has) many = absurd (omega (arith, many))
length-least least (value ∷ values) [] many = absurd (omega (arith, many))
length-least least (value ∷ values) (true ∷ has) many =
    ap suc (length-least least values has (omega (arith, many)))
length-least least (value ∷ values) (false ∷ has) many =
    ap suc (length-least least values has (omega (arith, many)))

numbers-least : (least : Bool) (values has : List Bool)
    → numbers_of (with_least least values has)
    ≡ with_unset (pos (cond least 1 0)) (numbers_of values) has
numbers-least least [] has = refl
numbers-least least (value ∷ values) [] = refl
numbers-least least (value ∷ values) (true ∷ has) =
    ap (λ (zs : List ℤ). pos (cond value 1 0) ∷ zs) (numbers-least least values has)
numbers-least least (value ∷ values) (false ∷ has) =
    ap (λ (zs : List ℤ). pos (cond least 1 0) ∷ zs) (numbers-least least values has)

set-least : (least : Bool) (values has : List Bool)
    → set_values (with_least least values has) has ≡ set_values values has
set-least least [] has = refl
set-least least (value ∷ values) [] = refl
set-least least (value ∷ values) (true ∷ has) =
    ap (λ (vs : List Bool). value ∷ vs) (set-least least values has)
set-least least (value ∷ values) (false ∷ has) = set-least least values has

unset-least : (least : Bool) (values has : List Bool)
    → all_unset least (with_least least values has) has ≡ true
unset-least least [] has = refl
unset-least least (value ∷ values) [] = refl
unset-least least (value ∷ values) (true ∷ has) = unset-least least values has
unset-least least (value ∷ values) (false ∷ has) =
    both (cond least least (not least)) (all_unset least (with_least least values has) has)
    (same_cond least least refl) (unset-least least values has)

-- The bits of booleans.
abbrev pub bits_of : List Bool → List ℕ
bits_of values = map (λ value. cond value 1 0) values

bits-numbers : (values : List Bool) → map pos (bits_of values) ≡ numbers_of values
bits-numbers [] = refl
bits-numbers (value ∷ values) =
    ap (λ (zs : List ℤ). pos (cond value 1 0) ∷ zs) (bits-numbers values)

bits-rows : (values : List Bool) → rows_of (bits_of values) ≡ values
bits-rows [] = refl
bits-rows (true ∷ values) = ap (λ (vs : List Bool). true ∷ vs) (bits-rows values)
bits-rows (false ∷ values) = ap (λ (vs : List Bool). false ∷ vs) (bits-rows values)

bits_low : (values : List Bool) → list_all (λ number. nat_lt number 2) (bits_of values) ≡ true
bits_low [] = refl
bits_low (true ∷ values) = bits_low values
bits_low (false ∷ values) = bits_low values

bits_fit : (values : List Bool) → All (λ number. number < 256 ^ 1) (bits_of values)
bits_fit [] = All-nil (λ number. number < 256 ^ 1)
bits_fit (true ∷ values) =
    All-cons (λ number. number < 256 ^ 1) 1 (bits_of values) (omega arith) (bits_fit values)
bits_fit (false ∷ values) =
    All-cons (λ number. number < 256 ^ 1) 0 (bits_of values) (omega arith) (bits_fit values)

-- What the numbers of booleans that were written say.
pub record BooleanParts (items has : List Bool) (bytes : List ℕ) : Type 0 where
  pub numbers : List ℕ
  pub many : length numbers ≡ length has
  pub fit : All (λ number. number < 256 ^ 1) numbers
  pub are : IsFrame (unsigned_word 1) (map pos numbers) bytes
  pub none : numbers_fault has numbers ≡ None
  pub same : numbers_of (rows_of numbers) ≡ filled (numbers_of items) has

some_rows : (has : List Bool) → some_has has ≡ true → 0 < length has
some_rows [] some = absurd (false≢true some)
some_rows (flag ∷ has) some = omega arith

pub boolean_parts : (items has : List Bool) (bytes : List ℕ) → length items ≡ length has
    → some_has has ≡ true → bytes ≡ frame (unsigned_word 1) (filled (numbers_of items) has)
    → BooleanParts items has bytes
boolean_parts items has bytes many some is =
    let least = all_have (set_values items has) in
    let values = with_least least items has in
    let numbers = bits_of values in
    let long : length numbers ≡ length has =
    length-map values (λ value. cond value 1 0) ∙ length-least least items has many in
    let whole : numbers_of values ≡ filled (numbers_of items) has =
    numbers-least least items has
    ∙ ap (λ (z : ℤ). with_unset z (numbers_of items) has)
    (sym (least_of_set items has many some)) in
    let set : all_have (set_values values has) ≡ least = ap all_have (set-least least items has) in
    record {
      numbers = numbers;
      many = long;
      fit = bits_fit values;
      are = record {
        some = omega (arith, length-map numbers pos, long, some_rows has some);
        same = is ∙ ap (frame (unsigned_word 1)) (sym (bits-numbers values ∙ whole));
      };
      none = numbers_kept has values numbers (sym (bits-rows values)) (bits_low values)
          (ap (λ (b : Bool). all_unset b values has) set ∙ unset-least least items has);
      same = ap numbers_of (bits-rows values) ∙ whole;
    }

-- The bytes behind the flags.
pub booleans_some : (values has : List Bool) → some_has has ≡ true
    → boolean_bytes values has ≡ 0 ∷ frame (unsigned_word 1) (filled (numbers_of values) has)
booleans_some values has some =
    ap (λ (b : Bool).
    if b then 0 ∷ frame (unsigned_word 1) (filled (numbers_of values) has) else []) some

pub fault_some : (has : List Bool) (kind : ℕ) (bytes : List ℕ) → some_has has ≡ true
    → kind ≡ 0 → booleans_fault has (kind ∷ bytes)
    ≡ first_fault (naturals_fault 1 (length has) bytes)
    (numbers_fault has (numbers_in 1 (length has) bytes))
fault_some has kind bytes some is =
    ap₂ (λ (a b : Bool). if not a then Some WrongLength else if not b then Some NoSuchKind
    else first_fault (naturals_fault 1 (length has) bytes)
    (numbers_fault has (numbers_in 1 (length has) bytes))) some (eq-eqb kind 0 is)

pub fault_kind : (has : List Bool) (kind : ℕ) (bytes : List ℕ) → some_has has ≡ true
    → (kind ≡ 0 → ⊥) → booleans_fault has (kind ∷ bytes) ≡ Some NoSuchKind
fault_kind has kind bytes some other =
    ap₂ (λ (a b : Bool). if not a then Some WrongLength else if not b then Some NoSuchKind
    else first_fault (naturals_fault 1 (length has) bytes)
    (numbers_fault has (numbers_in 1 (length has) bytes))) some (ne_eqb kind 0 other)
