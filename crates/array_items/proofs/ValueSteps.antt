-- The first value of some bytes, part by part.
use Rattle.std.proofs.Common.{◌≡◌, ◌≢◌, ℕ, ◌<◌, Bool, true, false, List, [], ◌∷◌, ◌++◌, length}
use Rattle.std.proofs.Common.{drop, take, refl, ap, ap₂, sym, ◌∙◌, arith}
use Rattle.std.proofs.Common.{append_assoc, append-nil, take-append-drop, length-append}
use Rattle.std.proofs.lemmas.List.{append_cancel_left}
use Rattle.std.specs.Prelude.{Option, Some, None, IfSome, ⊤}
use Rattle.std.specs.Io.{StartsWith}
use Rattle.std.specs.Io.KnownBytes.{Consumes}
use Rattle.array_items.specs.declared.value.Place.{Place}
use Rattle.array_items.specs.declared.value.Place.TheVariants.{Before, After}
use Rattle.array_items.specs.declared.value.Step.{Step}
use Rattle.array_items.specs.declared.value.Step.TheVariants.{Skip, Take, Leave}
use Rattle.array_items.specs.declared.value.Held.TheVariants.{Bytes}
use Rattle.array_items.specs.Values.{TakesHeld, TakesPart, TakesValue, has_ended}
use Rattle.array_items.specs.Values.{left_by, left_from, place_after, place_by, step_at}
use Rattle.array_items.specs.Values.{value_by, value_from}

abbrev Known : Type 0
Known = Option (List ℕ)

-- ---- bytes that are held, and more after them

value_append_by : (step : Step) (b : ℕ) (held more : List ℕ)
    → ((from : Place) → value_from from (held ++ more)
    ≡ value_from from held ++ value_from (place_after from held) (left_from from held ++ more))
    → value_by step b (λ next. value_from next (held ++ more))
    ≡ value_by step b (λ next. value_from next held)
    ++ value_from (place_by step (λ next. place_after next held))
    (left_by step b held (λ next. left_from next held) ++ more)
value_append_by Skip b held more later = later Before
value_append_by (Take next) b held more later = ap (λ l. b ∷ l) (later next)
value_append_by Leave b held more later = refl

pub value_append : (held more : List ℕ) (from : Place) → value_from from (held ++ more)
    ≡ value_from from held ++ value_from (place_after from held) (left_from from held ++ more)
value_append [] more from = refl
value_append (b ∷ held) more from =
    value_append_by (step_at from b) b held more (value_append held more)

left_append_by : (step : Step) (b : ℕ) (held more : List ℕ)
    → ((from : Place) → left_from from (held ++ more)
    ≡ left_from (place_after from held) (left_from from held ++ more))
    → left_by step b (held ++ more) (λ next. left_from next (held ++ more))
    ≡ left_from (place_by step (λ next. place_after next held))
    (left_by step b held (λ next. left_from next held) ++ more)
left_append_by Skip b held more later = later Before
left_append_by (Take next) b held more later = later next
left_append_by Leave b held more later = refl

pub left_append : (held more : List ℕ) (from : Place) → left_from from (held ++ more)
    ≡ left_from (place_after from held) (left_from from held ++ more)
left_append [] more from = refl
left_append (b ∷ held) more from =
    left_append_by (step_at from b) b held more (left_append held more)

-- ---- what a reader holds

module _ (shown : List ℕ) (n : ℕ) (from to : Place) (before after : List ℕ)
    (some : 0 < length shown) (dropped : drop n shown ≡ left_from from shown)
    (taken : after ≡ before ++ value_from from shown) (place : to ≡ place_after from shown) where
  rest_is : (bytes rest more : List ℕ) → bytes ≡ shown ++ more → bytes ≡ take n shown ++ rest
      → rest ≡ left_from from shown ++ more
  rest_is bytes rest more parts consumed =
      append_cancel_left (take n shown) rest (drop n shown ++ more)
      (sym consumed ∙ parts ∙ ap (λ (l : List ℕ). l ++ more) (sym (take-append-drop n shown))
      ∙ append_assoc (take n shown) (drop n shown) more)
      ∙ ap (λ (l : List ℕ). l ++ more) dropped

  value_is : (bytes rest more : List ℕ) → bytes ≡ shown ++ more
      → rest ≡ left_from from shown ++ more
      → before ++ value_from from bytes ≡ after ++ value_from to rest
  value_is bytes rest more parts left =
      let first = value_from from shown in
      let then = value_from (place_after from shown) (left_from from shown ++ more) in
      ap (λ (l : List ℕ). before ++ value_from from l) parts
      ∙ ap (λ (l : List ℕ). before ++ l) (value_append shown more from)
      ∙ sym (append_assoc before first then) ∙ ap (λ (l : List ℕ). l ++ then) (sym taken)
      ∙ ap₂ (λ (p : Place) (r : List ℕ). after ++ value_from p r) (sym place) (sym left)

  left_is : (bytes rest more : List ℕ) → bytes ≡ shown ++ more
      → rest ≡ left_from from shown ++ more → left_from from bytes ≡ left_from to rest
  left_is bytes rest more parts left =
      ap (left_from from) parts ∙ left_append shown more from
      ∙ ap₂ (λ (p : Place) (r : List ℕ). left_from p r) (sym place) (sym left)

  pub takes_held : (old new : Known) → IfSome old (λ bytes. StartsWith bytes shown)
      → Consumes old new (take n shown) → TakesHeld old new from to before after Bytes
  takes_held None new front consumed = tt
  takes_held (Some bytes) None front consumed = absurd consumed
  takes_held (Some bytes) (Some rest) front consumed =
      let more = drop (length shown) bytes in
      let parts : bytes ≡ shown ++ more =
      sym (take-append-drop (length shown) bytes) ∙ ap (λ (l : List ℕ). l ++ more) front in
      let left = rest_is bytes rest more parts consumed in (
        record {
          value = value_is bytes rest more parts left;
          left = left_is bytes rest more parts left;
        },
        λ empty. omega (arith, some, ap length parts, ap length empty, length-append shown more),
      )

-- ---- a read

-- What was taken so far is a part of the first value, and whether it is any bytes.
abbrev pub Begun : Known → Known → Place → List ℕ → Bool → Type 0
Begun None new place row has_begun = ⊤
Begun (Some bytes) None place row has_begun = ⊥
Begun (Some bytes) (Some rest) place row has_begun = TakesPart bytes rest Before place [] row
    × (has_begun ≡ true → bytes ≢ []) × (has_begun ≡ false → rest ≡ bytes)

parts_join : (bytes mid rest row after : List ℕ) (from to : Place)
    → TakesPart bytes mid Before from [] row → TakesPart mid rest from to row after
    → TakesPart bytes rest Before to [] after
parts_join bytes mid rest row after from to first then =
    record { value = first.value ∙ then.value; left = first.left ∙ then.left }

some_bytes : (bytes mid : List ℕ) (has_begun : Bool) → (has_begun ≡ true → bytes ≢ [])
    → (has_begun ≡ false → mid ≡ bytes) → mid ≢ [] → bytes ≢ []
some_bytes bytes mid true some same other = some refl
some_bytes bytes mid false some same other = λ empty. other (same refl ∙ empty)

value_ended : (rest : List ℕ) → value_from After rest ≡ []
value_ended [] = refl
value_ended (b ∷ rest) = refl

left_ended : (rest : List ℕ) → left_from After rest ≡ rest
left_ended [] = refl
left_ended (b ∷ rest) = refl

ended_value : (bytes rest row : List ℕ) (to : Place) → has_ended to ≡ true
    → TakesPart bytes rest Before to [] row
    → (row ≡ value_from Before bytes) × (rest ≡ left_from Before bytes)
ended_value bytes rest row After is part = (
  sym (part.value ∙ ap (λ (l : List ℕ). row ++ l) (value_ended rest) ∙ append-nil row),
  sym (part.left ∙ left_ended rest),
)
ended_value bytes rest row to is part = cc

module _ (from to : Place) (row after : List ℕ) (has_begun : Bool) where
  pub read_ended : (old mid new : Known) → Begun old mid from row has_begun
      → TakesHeld mid new from to row after Bytes → has_ended to ≡ true
      → TakesValue old new after true
  read_ended None mid new begun held is = tt
  read_ended (Some bytes) None new begun held is = absurd begun
  read_ended (Some bytes) (Some more) None begun held is = absurd held
  read_ended (Some bytes) (Some more) (Some rest) begun held is =
      let whole = ended_value bytes rest after to is
      (parts_join bytes more rest row after from to begun.0 held.0) in
      (some_bytes bytes more has_begun begun.1 begun.2 held.1, (whole.0, whole.1))
