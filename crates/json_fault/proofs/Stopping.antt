-- The scan stops in a number exactly if what was read ends in an unfinished or too large one.
use Rattle.std.proofs.Common.{◌≡◌, ℕ, ◌⊎◌, ◌↔◌, inl, inr, Bool, true, false, refl, sym, ap, ◌∙◌}
use Rattle.std.proofs.Common.{subst, arith, List, [], ◌∷◌, ◌++◌, append_assoc, Option, Some, None}
use Rattle.std.specs.Prelude.{◌==◌, not, cond}
use Rattle.jsonb_value.specs.declared.parser.number.Exponents.{Exponents}
use Rattle.jsonb_value.specs.Json.Characters.{zero_digit, quote, is_exponent_mark, all_digits}
use Rattle.jsonb_value.proofs.Json.Tests.{and_true, by_true, by_false, bool_cases, no_error}
use Rattle.jsonb_value.proofs.Json.Tests.{some_same}
use Rattle.std.specs.Char.{is_ascii_digit}
use Rattle.json_fault.specs.declared.number.Part.{Part}
use Rattle.json_fault.specs.declared.number.Part.TheVariants.{Sign, Zero, Whole, Point, Fraction}
use Rattle.json_fault.specs.declared.number.Numeral.{Numeral}
use Rattle.json_fault.specs.declared.exponent.Exponent.{Exponent}
use Rattle.json_fault.specs.declared.string.Place.{Place}
use Rattle.json_fault.specs.declared.string.Place.TheVariants.{Inside, Escaped, Four, ThreeOfD}
use Rattle.json_fault.specs.declared.string.Place.TheVariants.{Three, Two, One, HighTwo, HighOne}
use Rattle.json_fault.specs.declared.string.Place.TheVariants.{Low, LowLetter, LowUnit, LowOfD}
use Rattle.json_fault.specs.declared.expected.Bracket.{Bracket}
use Rattle.json_fault.specs.declared.expected.Bracket.TheVariants.{Array, Object}
use Rattle.json_fault.specs.declared.expected.Word.{Word}
use Rattle.json_fault.specs.declared.expected.Word.TheVariants.{Rue, Ue, E, Alse, Lse, Se, Ull, Ll}
use Rattle.json_fault.specs.declared.expected.Word.TheVariants.{L}
use Rattle.json_fault.specs.declared.expected.Expected.{Expected}
use Rattle.json_fault.specs.declared.expected.Expected.TheVariants.{Value, FirstItem, FirstKey}
use Rattle.json_fault.specs.declared.expected.Expected.TheVariants.{Key, Colon, Rest, Letters}
use Rattle.json_fault.specs.declared.expected.Expected.TheVariants.{Digits, ExponentSign}
use Rattle.json_fault.specs.declared.expected.Expected.TheVariants.{ExponentDigits, Content, Name}
use Rattle.json_fault.specs.declared.expected.Change.TheVariants.{Keep}
use Rattle.json_fault.specs.declared.fault.FaultReason.TheVariants.{Syntax, Number}
use Rattle.json_fault.specs.Fault.{Begins, BeginsNumber, EndsInNumber, IsJsonUnder, new_line}
use Rattle.json_fault.specs.Scan.{Move, changed, innermost_bracket, followed, part_continued}
use Rattle.json_fault.specs.Scan.{rest_begun}
use Rattle.json_fault.specs.Scan.{word_continued, string_continued, is_inside, takes_exponent}
use Rattle.json_fault.specs.Scan.{is_complete, is_final, is_unfinished, goes_on, stops_in_number}
use Rattle.json_fault.specs.Scan.{reason_at}
use Rattle.json_fault.proofs.Conditions.{either_none}
use Rattle.json_fault.proofs.Powers.{or_second}
use Rattle.json_fault.proofs.ExponentBack.{or_first}
use Rattle.json_fault.proofs.StepBack.{is_live}
use Rattle.json_fault.proofs.NumberGoes.{none_test, none_bound, and_none}
use Rattle.json_fault.proofs.NumberTails.{Tail, is_first, either_true, tail_on, digits_some}
use Rattle.json_fault.proofs.NumberTails.{sign_some, power_some}
use Rattle.json_fault.proofs.NumberSteps.{part_goes, first_comes, tail_of_number}
use Rattle.json_fault.proofs.Going.{Going, Position, arrives, arrives_first}
use Rattle.json_fault.proofs.Scanning.{NumberAt, IsNumberAt, Completed, completed_on}
use Rattle.json_fault.proofs.Scanning.{begins_at, text_goes_on, refused, IsReached}

-- ---- a new line comes after a number that is not unfinished

no_line_part : (rule : Exponents) (p : Part) (n : Numeral)
    → part_continued rule p n new_line ≡ None
no_line_part rule Sign n = refl
no_line_part rule Zero n = refl
no_line_part rule Whole n = refl
no_line_part rule Point n = refl
no_line_part rule Fraction n = refl

not_unfinished : (b : Bool) → not b ≡ false → b ≡ true
not_unfinished b e = grind arith

module _ (rule : Exponents) where
  after_digits : (n : Numeral) (top : Option Bracket) → followed rule (Digits n) top new_line
      ≡ cond (is_complete n) (Some (Rest, Keep)) None
  after_digits n top =
      either_none _ _ (none_bound _ _ (no_line_part rule n.part n))
      ∙ either_none _ _ (by_false _ _ _ _
      (and_none (takes_exponent rule n) (is_exponent_mark new_line) refl) refl)

  no_line : (e : Expected) (top : Option Bracket) → is_unfinished e ≡ true
      → followed rule e top new_line ≡ None
  no_line (Digits n) top e =
      after_digits n top ∙ by_false _ _ _ _ (none_test (is_complete n) e) refl
  no_line (ExponentSign n) top e = refl
  no_line (ExponentDigits x) top e = by_false _ _ _ _ (none_test (is_final x) e) refl
  no_line _ top e = absurd (let h : ⊥ = cc in h)

  digits_line : (n : Numeral) (top : Option Bracket) → is_unfinished (Digits n) ≡ false
      → followed rule (Digits n) top new_line ≡ Some (Rest, Keep)
  digits_line n top e =
      after_digits n top ∙ by_true _ _ _ _ (not_unfinished (is_complete n) e) refl

  power_line : (x : Exponent) (top : Option Bracket) → is_unfinished (ExponentDigits x) ≡ false
      → followed rule (ExponentDigits x) top new_line ≡ Some (Rest, Keep)
  power_line x top e = by_true _ _ _ _ (not_unfinished (is_final x) e) refl

  -- a new line may come
  abbrev TakesLine : Position → Type 0
  TakesLine x = (m : Move) × ((followed rule x.0 (innermost_bracket x.1) new_line ≡ Some m)
      × (is_live rule m.0 ≡ true))

  number_line : (e : Expected) (bs : List Bracket) (r : List ℕ) → is_unfinished e ≡ false
      → Tail e r → TakesLine (e, bs)
  number_line (Digits n) bs r e tail =
      ((Rest, Keep), (digits_line n (innermost_bracket bs) e, refl))
  number_line (ExponentSign n) bs r e tail = absurd (let h : ⊥ = cc in h)
  number_line (ExponentDigits x) bs r e tail =
      ((Rest, Keep), (power_line x (innermost_bracket bs) e, refl))
  number_line _ bs r e tail = absurd tail

  first_line : (e : Expected) (bs : List Bracket) → is_first e ≡ true → TakesLine (e, bs)
  first_line Value bs first = ((Value, Keep), (refl, refl))
  first_line FirstItem bs first = ((FirstItem, Keep), (refl, refl))
  first_line _ bs first = absurd (let h : ⊥ = cc in h)

-- ---- a number may come after a new line only where a value is expected

no_letter : (word : Word) → word_continued word new_line ≡ None
no_letter Rue = refl
no_letter Ue = refl
no_letter E = refl
no_letter Alse = refl
no_letter Lse = refl
no_letter Se = refl
no_letter Ull = refl
no_letter Ll = refl
no_letter L = refl

no_line_inside : (place : Place) → string_continued place new_line ≡ None
no_line_inside Inside = refl
no_line_inside Escaped = refl
no_line_inside Four = refl
no_line_inside ThreeOfD = refl
no_line_inside Three = refl
no_line_inside Two = refl
no_line_inside One = refl
no_line_inside HighTwo = refl
no_line_inside HighOne = refl
no_line_inside Low = refl
no_line_inside LowLetter = refl
no_line_inside LowUnit = refl
no_line_inside LowOfD = refl

no_zero : (top : Option Bracket) → rest_begun top zero_digit ≡ None
no_zero None = refl
no_zero (Some Array) = refl
no_zero (Some Object) = refl

module _ (rule : Exponents) (bs : List Bracket) (w : List ℕ) where
  abbrev Takes : Expected → Type 0
  Takes e = Going rule e bs (new_line ∷ zero_digit ∷ w)

  not_line : {A : Type 0} (e : Expected) → followed rule e (innermost_bracket bs) new_line ≡ None
      → Takes e → A
  unfolding Going
  not_line e none go = no_error (sym none ∙ go.1)

  not_zero : {A : Type 0} (e next : Expected)
      → followed rule e (innermost_bracket bs) new_line ≡ Some (next, Keep)
      → followed rule next (innermost_bracket bs) zero_digit ≡ None → Takes e → A
  unfolding Going
  not_zero e next line none go =
      let rest : Going rule next bs (zero_digit ∷ w) =
      subst (λ (m : Move). Going rule m.0 (changed m.1 bs) (zero_digit ∷ w))
      (some_same go.0 (next, Keep) (sym go.1 ∙ line)) go.2 in
      no_error (sym none ∙ rest.1)

  first_only : (e : Expected) → Takes e → is_first e ≡ true
  first_only Value go = refl
  first_only FirstItem go = refl
  first_only FirstKey go = not_zero FirstKey FirstKey refl refl go
  first_only Key go = not_zero Key Key refl refl go
  first_only Colon go = not_zero Colon Colon refl refl go
  first_only Rest go = not_zero Rest Rest refl (no_zero (innermost_bracket bs)) go
  first_only (Letters word) go = not_line (Letters word) (no_letter word) go
  first_only (Digits n) go = elim (bool_cases (is_unfinished (Digits n))) [
    | inl un ↦ not_line (Digits n) (no_line rule (Digits n) (innermost_bracket bs) un) go
    | inr done ↦ not_zero (Digits n) Rest (digits_line rule n (innermost_bracket bs) done)
        (no_zero (innermost_bracket bs)) go
  ]
  first_only (ExponentSign n) go = not_line (ExponentSign n) refl go
  first_only (ExponentDigits x) go = elim (bool_cases (is_unfinished (ExponentDigits x))) [
    | inl un ↦ not_line (ExponentDigits x)
        (no_line rule (ExponentDigits x) (innermost_bracket bs) un) go
    | inr done ↦ not_zero (ExponentDigits x) Rest (power_line rule x (innermost_bracket bs) done)
        (no_zero (innermost_bracket bs)) go
  ]
  first_only (Content place) go = not_line (Content place)
      (by_false _ _ _ _ (and_none (is_inside place) (new_line == quote) refl)
      (none_bound _ _ (no_line_inside place))) go
  first_only (Name place) go = not_line (Name place)
      (by_false _ _ _ _ (and_none (is_inside place) (new_line == quote) refl)
      (none_bound _ _ (no_line_inside place))) go

-- ---- the reason

-- The next character of the text, if there is one.
abbrev pub IsNext : Option ℕ → List ℕ → Type 0
IsNext None rest = rest ≡ []
IsNext (Some c) rest = (after : List ℕ) × (rest ≡ c ∷ after)

begins_number : (rule : Exponents) (front : List ℕ) (e : Expected) (at : NumberAt rule front e)
    → (d : ℕ) × ((w : List ℕ) × Tail e (d ∷ w)) → BeginsNumber at.number
begins_number rule front e at some =
    let n = at.tails some.0 some.1.0 some.1.1 in
    (n.0, (n.1.0, (some.0 ∷ some.1.0, n.1.1)))

begins_more : (rule : Exponents) (front : List ℕ) (e : Expected) (at : NumberAt rule front e)
    (c : ℕ) → goes_on e c ≡ true → BeginsNumber (at.number ++ c ∷ [])
begins_more rule front e at c goes =
    let on = tail_on e c goes in
    let n = at.tails c on.0 on.1 in
    (n.0, (n.1.0, (on.0, n.1.1 ∙ sym (append_assoc at.number (c ∷ []) on.0))))

unfinished_stops : (e : Expected) (next : Option ℕ) → is_unfinished e ≡ true
    → stops_in_number e next ≡ true
unfinished_stops e None un = un
unfinished_stops e (Some c) un = or_first _ _ un

tail_stops : (e : Expected) (c : ℕ) (r : List ℕ) → Tail e (c ∷ r)
    → stops_in_number e (Some c) ≡ true
tail_stops (Digits n) c r tail =
    or_second _ _ (part_goes n.part n.magnitude n.scale c r tail)
tail_stops (ExponentSign n) c r tail = refl
tail_stops (ExponentDigits x) c r tail =
    or_second _ _ (and_true (is_ascii_digit c) (all_digits r) tail).0
tail_stops _ c r tail = absurd tail

module _ (rule : Exponents) (front rest : List ℕ) where
  abbrev Arrived : Position → Type 0
  Arrived x = arrives rule (Value, []) front ≡ Some x

  -- the scan stops in a number: the text so far ends in one that is at fault
  why : (e : Expected) (bs : List Bracket) → Arrived (e, bs) → (at : NumberAt rule front e)
      → (next : Option ℕ) → IsNext next rest → stops_in_number e next ≡ true
      → (Begins rule (front ++ new_line ∷ []) → ⊥)
      ⊎ ((c : ℕ) × ((after : List ℕ) × ((rest ≡ c ∷ after) × BeginsNumber (at.number ++ c ∷ []))))
  why e bs arrived at None is stops =
      inl (refused rule front (e, bs) new_line arrived
      (no_line rule e (innermost_bracket bs) stops))
  why e bs arrived at (Some c) is stops = elim (either_true _ _ stops) [
    | inl un ↦
        inl (refused rule front (e, bs) new_line arrived (no_line rule e (innermost_bracket bs) un))
    | inr goes ↦ inr (c, (is.0, (is.1, begins_more rule front e at c goes)))
  ]

  at_fault : (e : Expected) (bs : List Bracket) → Arrived (e, bs) → NumberAt rule front e
      → (d : ℕ) × ((w : List ℕ) × Tail e (d ∷ w)) → (next : Option ℕ) → IsNext next rest
      → stops_in_number e next ≡ true → EndsInNumber rule front rest
  at_fault e bs arrived at some next is_next stops = record {
    before = at.before;
    number = at.number;
    is_split = at.is_split;
    is_expected = at.is_expected;
    is_number = begins_number rule front e at some;
    is_at_fault = why e bs arrived at next is_next stops;
  }

  stops_at_fault : (e : Expected) (bs : List Bracket) → Arrived (e, bs)
      → IsNumberAt rule front e → (next : Option ℕ) → IsNext next rest
      → stops_in_number e next ≡ true → EndsInNumber rule front rest
  stops_at_fault (Digits n) bs arrived at next is stops =
      at_fault (Digits n) bs arrived at (digits_some n) next is stops
  stops_at_fault (ExponentSign n) bs arrived at next is stops =
      at_fault (ExponentSign n) bs arrived at (sign_some n) next is stops
  stops_at_fault (ExponentDigits x) bs arrived at next is stops =
      at_fault (ExponentDigits x) bs arrived at (power_some x) next is stops
  stops_at_fault _ bs arrived at None is stops = absurd (let h : ⊥ = cc in h)
  stops_at_fault _ bs arrived at (Some c) is stops = absurd (let h : ⊥ = cc in h)

  -- and the converse
  line_at : (z x : Position) (number : List ℕ) → is_first z.0 ≡ true
      → arrives rule z number ≡ Some x → BeginsNumber number → is_unfinished x.0 ≡ false
      → TakesLine rule x
  line_at z x [] first e begins done =
      subst (TakesLine rule) (some_same z x e) (first_line rule z.0 z.1 first)
  line_at z x (c ∷ s) first e begins done =
      number_line rule x.0 x.1 begins.1.1.0 done (tail_of_number rule z x c s begins.1.1.0 first e
      (begins.0, (begins.1.0, begins.1.1.1)))

  more_at : (z x : Position) (number : List ℕ) (c : ℕ) → is_first z.0 ≡ true
      → arrives rule z number ≡ Some x → BeginsNumber (number ++ c ∷ [])
      → followed rule x.0 (innermost_bracket x.1) c ≡ None → stops_in_number x.0 (Some c) ≡ true
  more_at z x [] c first e begins none =
      absurd (first_comes rule z.0 (innermost_bracket z.1) c begins.1.1.0 first
      (begins.0, (begins.1.0, begins.1.1.1))
      (subst (λ (y : Position). followed rule y.0 (innermost_bracket y.1) c ≡ None)
      (sym (some_same z x e))
      none))
  more_at z x (d ∷ s) c first e begins none =
      tail_stops x.0 c begins.1.1.0 (tail_of_number rule z x d s (c ∷ begins.1.1.0) first e
      (begins.0, (begins.1.0, begins.1.1.1 ∙ append_assoc (d ∷ s) (c ∷ []) begins.1.1.0)))

  next_is : (next : Option ℕ) (c : ℕ) (after : List ℕ) → IsNext next rest → rest ≡ c ∷ after
      → next ≡ Some c
  next_is None c after is cut = absurd (let h : ⊥ = cc in h)
  next_is (Some d) c after is cut = ap Some (let h : d ≡ c = let e = is.1 in cc in h)

  fault_stops : (x : Position) → Arrived x → is_live rule x.0 ≡ true → Completed rule front x
      → EndsInNumber rule front rest → (next : Option ℕ) → IsNext next rest
      → ((c : ℕ) → next ≡ Some c → followed rule x.0 (innermost_bracket x.1) c ≡ None)
      → stops_in_number x.0 next ≡ true
  fault_stops x arrived live completed fault next is_next none =
      let at = arrives_first rule (Value, []) x fault.before fault.number
      (subst (λ (s : List ℕ). arrives rule (Value, []) s ≡ Some x) fault.is_split arrived) in
      let z = at.0 in
      let w = fault.is_expected.0 in
      let first = first_only rule z.1 w z.0
      (text_goes_on rule fault.before (new_line ∷ zero_digit ∷ w) z at.1.0
      (subst (IsJsonUnder rule) (append_assoc fault.before (new_line ∷ zero_digit ∷ []) w)
      fault.is_expected.1)) in
      elim fault.is_at_fault [
        | inl ends ↦ elim (bool_cases (is_unfinished x.0)) [
          | inl un ↦ unfinished_stops x.0 next un
          | inr done ↦
              let line = line_at z x fault.number first at.1.1 fault.is_number done in
              absurd (ends (begins_at rule (front ++ new_line ∷ [])
              (line.0.0, changed line.0.1 x.1) line.1.1
              (completed_on rule front x line.0 new_line line.1.0 live completed)))
        ]
        | inr on ↦
            let c = on.0 in
            let is = next_is next c on.1.0 is_next on.1.1.0 in
            subst (λ (o : Option ℕ). stops_in_number x.0 o ≡ true) (sym is)
            (more_at z x fault.number c first at.1.1 on.1.1.1 (none c is))
      ]

number_stops : (b : Bool) → cond b Number Syntax ≡ Number → b ≡ true
number_stops true e = refl
number_stops false e = absurd (let h : ⊥ = cc in h)

pub reason_is : (rule : Exponents) {text front rest : List ℕ} {e : Expected}
    {bs : List Bracket} → IsReached rule text front rest e bs → (next : Option ℕ)
    → IsNext next rest
    → ((c : ℕ) → next ≡ Some c → followed rule e (innermost_bracket bs) c ≡ None)
    → (reason_at e next ≡ Number) ↔ EndsInNumber rule front rest
reason_is rule {text} {front} {rest} {e} {bs} reached next is_next none = (
  λ is. stops_at_fault rule front rest e bs reached.arrived reached.sound.number next is_next
      (number_stops (stops_in_number e next) is),
  λ fault. ap (λ b. cond b Number Syntax) (fault_stops rule front rest (e, bs)
      reached.arrived reached.sound.live reached.completed fault next is_next none),
)
