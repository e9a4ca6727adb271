-- The laws of chunks of booleans.
use Rattle.std.proofs.Common.{◌≡◌, ℕ, zero, suc, ◌+◌, ◌<◌, ◌≤◌, Bool, true, false, List, [], ◌∷◌}
use Rattle.std.proofs.Common.{ℤ, pos, cond, fold, length, get_or, drop, map, refl, sym, ap, ap₂}
use Rattle.std.proofs.Common.{◌∙◌, arith}
use Rattle.std.specs.Int.{int_min}
use Rattle.std.specs.Prelude.{◌&&◌}
use Rattle.std.proofs.lemmas.Bool.{false≢true}
use Rattle.std.proofs.lemmas.List.{drop_all, drop_more, ext_get_or, get_or-map, length-map}
use Rattle.typed_chunk.specs.BooleanChunk.{numbers_of}
use Rattle.typed_chunk.specs.Flags.{all_have, some_has}
use Rattle.typed_chunk.specs.Frame.{least_value}
use Rattle.typed_chunk.specs.NumberChunk.{filled, with_unset}
use Rattle.typed_chunk.proofs.ValueLaws.{length-unset}
use Rattle.typed_vector.specs.ZoneMap.{set_values}

-- The booleans from one on that are set.
here : (values has : List Bool) (i : ℕ) (flag : Bool) → i < length values → i < length has
    → get_or has i false ≡ flag
    → set_values (drop i values) (drop i has)
    ≡ set_values (get_or values i false ∷ drop (i + 1) values) (flag ∷ drop (i + 1) has)
here values has i flag inside within is =
    ap₂ set_values (drop_more values i false inside)
    (drop_more has i false within ∙ ap (λ (b : Bool). b ∷ drop (i + 1) has) is)

pub true_unset : (values has : List Bool) (i : ℕ) → i < length values → i < length has
    → get_or has i false ≡ false
    → all_have (set_values (drop i values) (drop i has))
    ≡ all_have (set_values (drop (i + 1) values) (drop (i + 1) has))
true_unset values has i inside within unset =
    ap all_have (here values has i false inside within unset)

pub true_set : (values has : List Bool) (i : ℕ) → i < length values → i < length has
    → get_or has i false ≡ true → get_or values i false ≡ true
    → all_have (set_values (drop i values) (drop i has))
    ≡ all_have (set_values (drop (i + 1) values) (drop (i + 1) has))
true_set values has i inside within set is =
    ap all_have (here values has i true inside within set)
    ∙ ap (λ (b : Bool). b && all_have (set_values (drop (i + 1) values) (drop (i + 1) has))) is

pub true_not : (values has : List Bool) (i : ℕ) → i < length values → i < length has
    → get_or has i false ≡ true → get_or values i false ≡ false
    → all_have (set_values (drop i values) (drop i has)) ≡ false
true_not values has i inside within set is =
    ap all_have (here values has i true inside within set)
    ∙ ap (λ (b : Bool). b && all_have (set_values (drop (i + 1) values) (drop (i + 1) has))) is

none_set : (values : List Bool) → set_values values [] ≡ []
none_set [] = refl
none_set (value ∷ values) = refl

pub true_end : (values has : List Bool) (i : ℕ) → length has ≤ i
    → all_have (set_values (drop i values) (drop i has)) ≡ true
true_end values has i past =
    ap all_have (ap (set_values (drop i values)) (drop_all i has past) ∙ none_set (drop i values))

pub ruleset true_steps = (true_unset, true_set, true_not, true_end)

-- The least of their numbers.
fold_low : (numbers : List Bool) → fold int_min (pos 0) (numbers_of numbers) ≡ pos 0
fold_low [] = refl
fold_low (true ∷ numbers) = fold_low numbers
fold_low (false ∷ numbers) = fold_low numbers

fold_high : (numbers : List Bool)
    → fold int_min (pos 1) (numbers_of numbers) ≡ pos (cond (all_have numbers) 1 0)
fold_high [] = refl
fold_high (true ∷ numbers) = fold_high numbers
fold_high (false ∷ numbers) = fold_low numbers

least_numbers : (numbers : List Bool) → 0 < length numbers
    → least_value (numbers_of numbers) ≡ pos (cond (all_have numbers) 1 0)
least_numbers [] some = absurd (omega (arith, some))
least_numbers (true ∷ numbers) some = fold_high numbers
least_numbers (false ∷ numbers) some = fold_low numbers

set_numbers : (values has : List Bool)
    → set_values (numbers_of values) has ≡ numbers_of (set_values values has)
set_numbers [] has = refl
set_numbers (value ∷ values) [] = refl
set_numbers (value ∷ values) (true ∷ has) =
    ap (λ (zs : List ℤ). pos (cond value 1 0) ∷ zs) (set_numbers values has)
set_numbers (value ∷ values) (false ∷ has) = set_numbers values has

some_set : (values has : List Bool) → length values ≡ length has → some_has has ≡ true
    → 0 < length (set_values values has)
some_set values [] many some = absurd (false≢true some)
some_set [] (flag ∷ has) many some = absurd (omega (arith, many))
some_set (value ∷ values) (true ∷ has) many some = omega arith
some_set (value ∷ values) (false ∷ has) many some =
    some_set values has (omega (arith, many)) some

pub least_of_set : (values has : List Bool) → length values ≡ length has → some_has has ≡ true
    → least_value (set_values (numbers_of values) has)
    ≡ pos (cond (all_have (set_values values has)) 1 0)
least_of_set values has many some =
    ap least_value (set_numbers values has)
    ∙ least_numbers (set_values values has) (some_set values has many some)

-- The number of one row.
pub number_set : (least : ℤ) (values has : List Bool) (i : ℕ) → i < length has
    → length values ≡ length has → get_or has i false ≡ true
    → get_or (with_unset least (numbers_of values) has) i (pos 0)
    ≡ pos (cond (get_or values i false) 1 0)
number_set least values [] i low many set = absurd (omega (arith, low))
number_set least [] (flag ∷ has) i low many set = absurd (omega (arith, many))
number_set least (value ∷ values) (true ∷ has) zero low many set = refl
number_set least (value ∷ values) (false ∷ has) zero low many set = absurd (false≢true set)
number_set least (value ∷ values) (true ∷ has) (suc i) low many set =
    number_set least values has i (omega (arith, low)) (omega (arith, many)) set
number_set least (value ∷ values) (false ∷ has) (suc i) low many set =
    number_set least values has i (omega (arith, low)) (omega (arith, many)) set

pub number_unset : (least : ℤ) (values has : List Bool) (i : ℕ) → i < length has
    → length values ≡ length has → get_or has i false ≡ false
    → get_or (with_unset least (numbers_of values) has) i (pos 0) ≡ least
number_unset least values [] i low many set = absurd (omega (arith, low))
number_unset least [] (flag ∷ has) i low many set = absurd (omega (arith, many))
number_unset least (value ∷ values) (true ∷ has) zero low many set =
    absurd (false≢true (sym set))
number_unset least (value ∷ values) (false ∷ has) zero low many set = refl
number_unset least (value ∷ values) (true ∷ has) (suc i) low many set =
    number_unset least values has i (omega (arith, low)) (omega (arith, many)) set
number_unset least (value ∷ values) (false ∷ has) (suc i) low many set =
    number_unset least values has i (omega (arith, low)) (omega (arith, many)) set

pub ruleset number_steps = (number_set, number_unset)

-- The numbers of all rows.
pub numbers_filled : (values has : List Bool) (least : Bool) (codes : List ℕ)
    → length values ≡ length has → length codes ≡ length has → some_has has ≡ true
    → least ≡ all_have (set_values values has)
    → ((k : ℕ) → k < length has → pos (get_or codes k 0)
    ≡ get_or (with_unset (pos (cond least 1 0)) (numbers_of values) has) k (pos 0))
    → map pos codes ≡ filled (numbers_of values) has
numbers_filled values has least codes many long some is are =
    let bottom : pos (cond least 1 0) ≡ least_value (set_values (numbers_of values) has) =
    ap (λ (b : Bool). pos (cond b 1 0)) is ∙ sym (least_of_set values has many some) in
    let all = with_unset (pos (cond least 1 0)) (numbers_of values) has in
    let size : length (numbers_of values) ≡ length has =
    length-map values (λ value. pos (cond value 1 0)) ∙ many in
    ext_get_or (pos 0) (map pos codes) all
    (length-map codes pos ∙ long ∙ sym (length-unset (pos (cond least 1 0)) (numbers_of values) has
    size ∙ size))
    (λ k low.
    let within : k < length has = omega (arith, low, long, length-map codes pos) in
    get_or-map pos codes k 0 (pos 0) (omega (arith, within, long)) ∙ are k within)
    ∙ ap (λ (z : ℤ). with_unset z (numbers_of values) has) bottom
