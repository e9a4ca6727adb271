-- The laws of values of which none is below the one before it.
use Rattle.std.proofs.Common.{◌≡◌, ℕ, zero, suc, ◌+◌, ◌^◌, ◌<◌, ◌≤◌, true, false, List, [], ◌∷◌}
use Rattle.std.proofs.Common.{◌++◌, ℤ, pos, negsuc, ◌+ℤ◌, ◌<ℤ◌, ◌≤ℤ◌, int_le, int_lt, All}
use Rattle.std.proofs.Common.{FitsSigned, sum}
use Rattle.std.proofs.Common.{length, get_or, refl, sym, ap, ap₂, subst, ◌∙◌, arith}
use Rattle.std.proofs.Common.{◌≢◌, inl, inr, map, set, Some, None, add-one, le-leb, le-ltb}
use Rattle.std.proofs.Common.{leb-true, lt-ltb}
use mir.Val.{hbits}
use Rattle.std.specs.Int.{Width, w64}
use Rattle.std.proofs.lemmas.Bool.{and_from, and_parts, cases_lt, false≢true, lt-leb}
use Rattle.std.proofs.lemmas.List.{ext_get_or, get_or-set_other, get_or-set_same}
use Rattle.std.proofs.lemmas.Int.{ints, to_z-of_z}
use Rattle.std.proofs.lemmas.List.Elements.{All-cons, All-head, All-nil, All-tail}
use Rattle.std.proofs.lemmas.List.Sums.{fold_more, sum_by-cons}
use Rattle.typed_chunk.specs.Frame.{frame, height, signed_word, unsigned_word}
use Rattle.typed_chunk.specs.Rising.{last_fault, rises_from, rising, steps_from, steps_of}
use Rattle.typed_chunk.specs.Rising.{values_from}
use Rattle.typed_chunk.specs.declared.fault.ChunkFault.TheVariants.{ValueOutOfRange}
use Rattle.typed_chunk.proofs.FrameLaws.{fits_between, height-value, height_fits, value-height}

-- The test of an order.
pub le_from_test : (a b : ℤ) → int_le a b ≡ true → a ≤ℤ b
le_from_test (pos a) (pos b) e = let low = leb-true a b e in omega (arith, ints)
le_from_test (pos a) (negsuc b) e = absurd (false≢true e)
le_from_test (negsuc a) (pos b) e = omega (arith, ints)
le_from_test (negsuc a) (negsuc b) e = let low = leb-true b a e in omega (arith, ints)

pub test_from_le : (a b : ℤ) → a ≤ℤ b → int_le a b ≡ true
test_from_le (pos a) (pos b) low = le-leb a b (omega (arith, ints))
test_from_le (pos a) (negsuc b) low = absurd (omega (arith, ints))
test_from_le (negsuc a) (pos b) low = refl
test_from_le (negsuc a) (negsuc b) low = le-leb b a (omega (arith, ints))

-- The steps of values that rise by these are these, and the other way round.
pub length-steps_from : (before : ℤ) (values : List ℤ)
    → length (steps_from before values) ≡ length values
length-steps_from before [] = refl
length-steps_from before (value ∷ values) = ap suc (length-steps_from value values)

pub length-values_from : (before : ℤ) (steps : List ℕ)
    → length (values_from before steps) ≡ length steps
length-values_from before [] = refl
length-values_from before (step ∷ steps) =
    ap suc (length-values_from (before +ℤ pos step) steps)

pub steps-values : (before : ℤ) (steps : List ℕ)
    → steps_from before (values_from before steps) ≡ steps
steps-values before [] = refl
steps-values before (step ∷ steps) =
    ap₂ (λ (x : ℕ) (xs : List ℕ). x ∷ xs) (height-value before step)
    (steps-values (before +ℤ pos step) steps)

pub values-steps : (before : ℤ) (values : List ℤ) → rises_from before values ≡ true
    → values_from before (steps_from before values) ≡ values
values-steps before [] up = refl
values-steps before (value ∷ values) up =
    let ups = and_parts (int_le before value) (rises_from value values) up in
    let same : before +ℤ pos (height before value) ≡ value =
    value-height before value (le_from_test before value ups.0) in
    ap₂ (λ (x : ℤ) (xs : List ℤ). x ∷ xs) same
    (ap (λ (z : ℤ). values_from z (steps_from value values)) same
    ∙ values-steps value values ups.1)

pub rises-values : (before : ℤ) (steps : List ℕ)
    → rises_from before (values_from before steps) ≡ true
rises-values before [] = refl
rises-values before (step ∷ steps) =
    and_from (int_le before (before +ℤ pos step))
    (rises_from (before +ℤ pos step) (values_from (before +ℤ pos step) steps))
    (test_from_le before (before +ℤ pos step) (omega (arith, ints)))
    (rises-values (before +ℤ pos step) steps)

-- What holds of the first value and of each other holds of the last.
pub last_has : (P : ℤ → Type 0) (before : ℤ) (values : List ℤ) → rises_from before values ≡ true
    → P before → All P values → P (before +ℤ pos (sum (steps_from before values)))
last_has P before [] up first all =
    let same : before ≡ before +ℤ pos 0 = omega (arith, ints) in
    subst P same first
last_has P before (value ∷ values) up first all =
    let ups = and_parts (int_le before value) (rises_from value values) up in
    let step = height before value in
    let steps = steps_from value values in
    let there : before +ℤ pos step ≡ value =
    value-height before value (le_from_test before value ups.0) in
    let more : sum (step ∷ steps) ≡ step + sum steps = sum_by-cons (λ n. n) step steps in
    let apart : (before +ℤ pos step) +ℤ pos (sum steps) ≡ before +ℤ pos (step + sum steps) =
    omega (arith, ints) in
    let same : value +ℤ pos (sum steps) ≡ before +ℤ pos (sum (step ∷ steps)) =
    ap (λ (z : ℤ). z +ℤ pos (sum steps)) (sym there) ∙ apart
    ∙ ap (λ (n : ℕ). before +ℤ pos n) (sym more) in
    subst P same (last_has P value values ups.1 (All-head P value values all)
    (All-tail P value values all))

-- The steps of values of so many bits.
pub steps_fit : (w : Width) (before : ℤ) (values : List ℤ) → rises_from before values ≡ true
    → FitsSigned w before → All (FitsSigned w) values
    → All (λ step. step < 2 ^ hbits w + 2 ^ hbits w) (steps_from before values)
steps_fit w before [] up fits all = All-nil (λ step. step < 2 ^ hbits w + 2 ^ hbits w)
steps_fit w before (value ∷ values) up fits all =
    let ups = and_parts (int_le before value) (rises_from value values) up in
    let value_fits = All-head (FitsSigned w) value values all in
    All-cons (λ step. step < 2 ^ hbits w + 2 ^ hbits w) (height before value)
    (steps_from value values)
    (height_fits w before value (le_from_test before value ups.0) fits value_fits)
    (steps_fit w value values ups.1 value_fits (All-tail (FitsSigned w) value values all))

-- A step by its place, and a value.
pub get_or-steps_from : (before : ℤ) (values : List ℤ) (i : ℕ) → i < length values
    → get_or (steps_from before values) i 0
    ≡ height (get_or (before ∷ values) i (pos 0)) (get_or values i (pos 0))
get_or-steps_from before [] i inside = absurd (omega (arith, inside))
get_or-steps_from before (value ∷ values) zero inside = refl
get_or-steps_from before (value ∷ values) (suc i) inside =
    get_or-steps_from value values i (omega (arith, inside))

pub get_or-values_from : (before : ℤ) (steps : List ℕ) (i : ℕ) → i < length steps
    → get_or (values_from before steps) i (pos 0)
    ≡ get_or (before ∷ values_from before steps) i (pos 0) +ℤ pos (get_or steps i 0)
get_or-values_from before [] i inside = absurd (omega (arith, inside))
get_or-values_from before (step ∷ steps) zero inside = refl
get_or-values_from before (step ∷ steps) (suc i) inside =
    get_or-values_from (before +ℤ pos step) steps i (omega (arith, inside))

-- No value is below the first or above the last.
pub record Between (low value high : ℤ) : Type 0 where
  pub above : low ≤ℤ value
  pub below : value ≤ℤ high

pub value_between : (before : ℤ) (steps : List ℕ) (i : ℕ) → i ≤ length steps
    → Between before (get_or (before ∷ values_from before steps) i (pos 0))
    (before +ℤ pos (sum steps))
value_between before steps zero inside =
    record { above = omega (arith, ints); below = omega (arith, ints) }
value_between before [] (suc i) inside = absurd (omega (arith, inside))
value_between before (step ∷ steps) (suc i) inside =
    let rest = value_between (before +ℤ pos step) steps i (omega (arith, inside)) in
    let more : sum (step ∷ steps) ≡ step + sum steps = sum_by-cons (λ n. n) step steps in
    record {
      above = omega (arith, ints, rest.above);
      below = omega (arith, ints, rest.below, more);
    }

-- The tests of an order, from what is so.
pub test_fails : (a b : ℤ) → b <ℤ a → int_le a b ≡ false
test_fails (pos a) (pos b) low = lt-leb a b (omega (arith, ints))
test_fails (pos a) (negsuc b) low = refl
test_fails (negsuc a) (pos b) low = absurd (omega (arith, ints))
test_fails (negsuc a) (negsuc b) low = lt-leb b a (omega (arith, ints))

pub below_test : (a b : ℤ) → a <ℤ b → int_lt a b ≡ true
below_test (pos a) (pos b) low = lt-ltb a b (omega (arith, ints))
below_test (pos a) (negsuc b) low = absurd (omega (arith, ints))
below_test (negsuc a) (pos b) low = refl
below_test (negsuc a) (negsuc b) low = lt-ltb b a (omega (arith, ints))

pub below_fails : (a b : ℤ) → b ≤ℤ a → int_lt a b ≡ false
below_fails (pos a) (pos b) low = le-ltb a b (omega (arith, ints))
below_fails (pos a) (negsuc b) low = refl
below_fails (negsuc a) (pos b) low = absurd (omega (arith, ints))
below_fails (negsuc a) (negsuc b) low = le-ltb b a (omega (arith, ints))

-- What the last value makes of the fault.
pub last_kept : (size : ℕ) (first : ℤ) (steps : List ℕ)
    → (first +ℤ pos (sum steps)) <ℤ pos (2 ^ size) → last_fault size first steps ≡ None
last_kept size first steps low =
    rw (below_test (first +ℤ pos (sum steps)) (pos (2 ^ size)) low) refl

pub last_left : (size : ℕ) (first : ℤ) (steps : List ℕ)
    → pos (2 ^ size) ≤ℤ (first +ℤ pos (sum steps))
    → last_fault size first steps ≡ Some ValueOutOfRange
last_left size first steps high =
    rw (below_fails (first +ℤ pos (sum steps)) (pos (2 ^ size)) high) refl

-- The next value.
pub next_value : (first value : ℤ) (steps : List ℕ) (i : ℕ) → i < length steps
    → value ≡ get_or (first ∷ values_from first steps) i (pos 0)
    → value +ℤ pos (get_or steps i 0) ≡ get_or (first ∷ values_from first steps) (i + 1) (pos 0)
next_value first value steps i inside is =
    let there : get_or (first ∷ values_from first steps) (i + 1) (pos 0)
    ≡ get_or (values_from first steps) i (pos 0) =
    ap (λ (k : ℕ). get_or (first ∷ values_from first steps) k (pos 0)) (add-one i) in
    ap (λ (z : ℤ). z +ℤ pos (get_or steps i 0)) is
    ∙ sym (there ∙ get_or-values_from first steps i inside)

pub next_fits : (first value : ℤ) (steps : List ℕ) (i : ℕ) → i < length steps
    → FitsSigned w64 first → FitsSigned w64 (first +ℤ pos (sum steps))
    → value ≡ get_or (first ∷ values_from first steps) i (pos 0)
    → FitsSigned w64 (value +ℤ pos (get_or steps i 0))
next_fits first value steps i inside fits last_fits is =
    let between = value_between first steps (i + 1) (omega (arith, inside)) in
    subst (FitsSigned w64) (sym (next_value first value steps i inside is))
    (fits_between w64 first (get_or (first ∷ values_from first steps) (i + 1) (pos 0))
    (first +ℤ pos (sum steps)) fits last_fits between.above between.below)

-- The steps, by the places of values.
pub steps_by : (values : List ℤ) (steps : List ℕ) → length steps + 1 ≡ length values
    → ((k : ℕ) → k < length steps
    → get_or steps k 0 ≡ height (get_or values k (pos 0)) (get_or values (k + 1) (pos 0)))
    → steps ≡ steps_of values
steps_by [] steps long are = absurd (omega (arith, long))
steps_by (value ∷ values) steps long are =
    let many : length steps ≡ length values = omega (arith, long) in
    ext_get_or 0 steps (steps_from value values) (many ∙ sym (length-steps_from value values))
    (λ k low. are k low
    ∙ ap (λ (n : ℕ). height (get_or (value ∷ values) k (pos 0)) (get_or (value ∷ values) n (pos 0)))
    (add-one k)
    ∙ sym (get_or-steps_from value values k (omega (arith, low, many))))

pub rising_is : (values : List ℤ) → 0 < length values → rising w64 values
    ≡ signed_word w64 (get_or values 0 (pos 0))
    ++ frame (unsigned_word 8) (map pos (steps_of values))
rising_is [] some = absurd (omega (arith, some))
rising_is (value ∷ values) some = refl

-- One more value that is written.
pub set_next : (first : ℤ) (steps : List ℕ) (values new : List ℤ) (i : ℕ) → i < length steps
    → i + 1 < length values
    → new ≡ set values (i + 1) (get_or values i (pos 0) +ℤ pos (get_or steps i 0))
    → ((k : ℕ) → k < i + 1
    → get_or values k (pos 0) ≡ get_or (first ∷ values_from first steps) k (pos 0))
    → (k : ℕ) → k < i + 1 + 1
    → get_or new k (pos 0) ≡ get_or (first ∷ values_from first steps) k (pos 0)
set_next first steps values new i inside room is are k low = elim (cases_lt k (i + 1)) [
  | inl below ↦
      let other : k ≢ i + 1 = λ same. absurd (omega (arith, below, same)) in
      ap (λ (xs : List ℤ). get_or xs k (pos 0)) is
      ∙ get_or-set_other values (i + 1) k (get_or values i (pos 0) +ℤ pos (get_or steps i 0))
      (pos 0)
      other
      ∙ are k below
  | inr above ↦
      let same : k ≡ i + 1 = omega (arith, above, low) in
      let value = get_or values i (pos 0) +ℤ pos (get_or steps i 0) in
      ap (λ (n : ℕ). get_or new n (pos 0)) same
      ∙ ap (λ (xs : List ℤ). get_or xs (i + 1) (pos 0)) is
      ∙ get_or-set_same values (i + 1) value (pos 0) room
      ∙ next_value first (get_or values i (pos 0)) steps i inside (are i (omega arith))
      ∙ ap (λ (n : ℕ). get_or (first ∷ values_from first steps) n (pos 0)) (sym same)
]

-- The steps of the loops.
pub ruleset order_steps = (ints, test_from_le, test_fails, to_z-of_z)

pub ruleset last_steps = (ints, fold_more, last_kept, last_left, to_z-of_z)
