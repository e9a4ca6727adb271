-- The laws of values of which some are not set.
use Rattle.std.proofs.Common.{◌≡◌, ℕ, zero, suc, ◌+◌, ◌<◌, ◌≤◌, Bool, true, false, List, [], ◌∷◌}
use Rattle.std.proofs.Common.{ℤ, pos, fold, length, get_or, drop, refl, sym, ap, ap₂, ◌∙◌, arith}
use Rattle.std.proofs.Common.{inl, inr}
use Rattle.std.specs.Int.{int_min}
use Rattle.std.specs.Prelude.{if◌then◌else◌, int_lt}
use Rattle.std.proofs.lemmas.Bool.{cases_Bool}
use Rattle.std.proofs.lemmas.List.{drop_all, drop_more, ext_get_or}
use Rattle.typed_chunk.specs.Frame.{least_value}
use Rattle.typed_chunk.specs.NumberChunk.{with_unset}
use Rattle.typed_vector.specs.ZoneMap.{set_values}

-- The rows from one on that have a value.
pub value_here : (values : List ℤ) (has : List Bool) (i : ℕ) → i < length values
    → i < length has → get_or has i false ≡ true
    → set_values (drop i values) (drop i has)
    ≡ get_or values i (pos 0) ∷ set_values (drop (i + 1) values) (drop (i + 1) has)
value_here values has i inside within some =
    ap₂ set_values (drop_more values i (pos 0) inside)
    (drop_more has i false within ∙ ap (λ (b : Bool). b ∷ drop (i + 1) has) some)

pub none_here : (values : List ℤ) (has : List Bool) (i : ℕ) → i < length values
    → i < length has → get_or has i false ≡ false
    → set_values (drop i values) (drop i has)
    ≡ set_values (drop (i + 1) values) (drop (i + 1) has)
none_here values has i inside within none =
    ap₂ set_values (drop_more values i (pos 0) inside)
    (drop_more has i false within ∙ ap (λ (b : Bool). b ∷ drop (i + 1) has) none)

no_flags : (values : List ℤ) → set_values values [] ≡ []
no_flags [] = refl
no_flags (value ∷ values) = refl

pub no_more : (values : List ℤ) (has : List Bool) (i : ℕ) → length has ≤ i
    → set_values (drop i values) (drop i has) ≡ []
no_more values has i past =
    ap (set_values (drop i values)) (drop_all i has past) ∙ no_flags (drop i values)

-- The least of those that are set, begun with the first of them.
min_itself : (value : ℤ) → int_min value value ≡ value
min_itself value = elim (cases_Bool (int_lt value value)) [
  | inl low ↦ rw low refl
  | inr high ↦ rw high refl
]

pub least_from_first : (values : List ℤ)
    → fold int_min (get_or values 0 (pos 0)) values ≡ least_value values
least_from_first [] = refl
least_from_first (value ∷ values) = ap (λ (z : ℤ). fold int_min z values) (min_itself value)

-- Values at an index.
pub length-unset : (least : ℤ) (values : List ℤ) (has : List Bool) → length values ≡ length has
    → length (with_unset least values has) ≡ length values
length-unset least [] has many = refl
length-unset least (value ∷ values) [] many = absurd (omega (arith, many))
length-unset least (value ∷ values) (true ∷ has) many =
    ap suc (length-unset least values has (omega (arith, many)))
length-unset least (value ∷ values) (false ∷ has) many =
    ap suc (length-unset least values has (omega (arith, many)))

unset_at : (least : ℤ) (values : List ℤ) (has : List Bool) (k : ℕ) → length values ≡ length has
    → k < length values
    → (if get_or has k false then get_or values k (pos 0) else least)
    ≡ get_or (with_unset least values has) k (pos 0)
unset_at least [] has k many low = absurd (omega (arith, low))
unset_at least (value ∷ values) [] k many low = absurd (omega (arith, many))
unset_at least (value ∷ values) (true ∷ has) zero many low = refl
unset_at least (value ∷ values) (false ∷ has) zero many low = refl
unset_at least (value ∷ values) (true ∷ has) (suc k) many low =
    unset_at least values has k (omega (arith, many)) (omega (arith, low))
unset_at least (value ∷ values) (false ∷ has) (suc k) many low =
    unset_at least values has k (omega (arith, many)) (omega (arith, low))

pub unset_by : (least : ℤ) (values new : List ℤ) (has : List Bool) → length values ≡ length has
    → length new ≡ length values
    → ((k : ℕ) → k < length values → get_or new k (pos 0)
    ≡ (if get_or has k false then get_or values k (pos 0) else least))
    → new ≡ with_unset least values has
unset_by least values new has many long are =
    ext_get_or (pos 0) new (with_unset least values has)
    (long ∙ sym (length-unset least values has many))
    (λ k low.
    let inside : k < length values = omega (arith, low, long) in
    are k inside ∙ unset_at least values has k many inside)
