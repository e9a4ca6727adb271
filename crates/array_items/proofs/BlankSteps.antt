-- White space that is passed over, part by part.
use Rattle.std.proofs.Common.{◌≡◌, ℕ, Bool, true, false, List, [], ◌∷◌, ◌++◌, length, drop}
use Rattle.std.proofs.Common.{take, refl, ap, sym, ◌∙◌, append_assoc, take-append-drop}
use Rattle.std.proofs.lemmas.List.{append_cancel_left}
use Rattle.std.specs.Prelude.{Option, Some, None, IfSome, ⊤}
use Rattle.std.specs.Io.{StartsWith}
use Rattle.std.specs.Io.KnownBytes.{Consumes}
use Rattle.jsonb_value.specs.Json.Characters.{is_blank}
use Rattle.array_items.specs.Blanks.{PassesHeld, PassesPart, first_byte}
use Rattle.array_items.specs.Blanks.{left_after, next_of, trimmed}
use Rattle.array_items.specs.declared.held.Next.{Next}

abbrev pub Known : Type 0
Known = Option (List ℕ)

-- ---- texts without white space at their start

twice_by : (b : ℕ) (bytes : List ℕ) (t : Bool) → is_blank b ≡ t
    → trimmed (trimmed bytes) ≡ trimmed bytes → trimmed (trimmed (b ∷ bytes)) ≡ trimmed (b ∷ bytes)
twice_by b bytes true is later = rw is later
twice_by b bytes false is later = rw is (rw is refl)

pub trimmed_twice : (bytes : List ℕ) → trimmed (trimmed bytes) ≡ trimmed bytes
trimmed_twice [] = refl
trimmed_twice (b ∷ bytes) = twice_by b bytes (is_blank b) refl (trimmed_twice bytes)

none_by : (b : ℕ) (held more : List ℕ) (t : Bool) → is_blank b ≡ t → trimmed (b ∷ held) ≡ []
    → (trimmed held ≡ [] → trimmed (held ++ more) ≡ trimmed more)
    → trimmed (b ∷ (held ++ more)) ≡ trimmed more
none_by b held more true is none later = rw is (later (rw is at none))
none_by b held more false is none later = cc

pub trimmed_none : (held more : List ℕ) → trimmed held ≡ []
    → trimmed (held ++ more) ≡ trimmed more
trimmed_none [] more none = refl
trimmed_none (b ∷ held) more none =
    none_by b held more (is_blank b) refl none (trimmed_none held more)

some_by : (b : ℕ) (held more rest : List ℕ) (c : ℕ) (t : Bool) → is_blank b ≡ t
    → trimmed (b ∷ held) ≡ c ∷ rest
    → (trimmed held ≡ c ∷ rest → trimmed (held ++ more) ≡ c ∷ (rest ++ more))
    → trimmed (b ∷ (held ++ more)) ≡ c ∷ (rest ++ more)
some_by b held more rest c true is some later = rw is (later (rw is at some))
some_by b held more rest c false is some later =
    rw is (ap (λ (l : List ℕ). l ++ more) (rw is at some))

pub trimmed_some : (held more rest : List ℕ) (c : ℕ) → trimmed held ≡ c ∷ rest
    → trimmed (held ++ more) ≡ c ∷ (rest ++ more)
trimmed_some [] more rest c some = cc
trimmed_some (b ∷ held) more rest c some =
    some_by b held more rest c (is_blank b) refl some (trimmed_some held more rest c)

-- ---- what a reader holds

module _ (shown : List ℕ) (n : ℕ) (is_taken : Bool) (next : Next)
    (dropped : drop n shown ≡ left_after is_taken (trimmed shown))
    (is : next ≡ next_of (trimmed shown)) where
  rest_is : (bytes rest more : List ℕ) → bytes ≡ shown ++ more → bytes ≡ take n shown ++ rest
      → rest ≡ left_after is_taken (trimmed shown) ++ more
  rest_is bytes rest more parts consumed =
      append_cancel_left (take n shown) rest (drop n shown ++ more)
      (sym consumed ∙ parts ∙ ap (λ (l : List ℕ). l ++ more) (sym (take-append-drop n shown))
      ∙ append_assoc (take n shown) (drop n shown) more)
      ∙ ap (λ (l : List ℕ). l ++ more) dropped

  left_more : (t : Bool) (b : ℕ) (bytes more : List ℕ)
      → left_after t (b ∷ bytes) ++ more ≡ left_after t (b ∷ (bytes ++ more))
  left_more true b bytes more = refl
  left_more false b bytes more = refl

  part_by : (bytes rest more begun : List ℕ) → bytes ≡ shown ++ more → trimmed shown ≡ begun
      → rest ≡ left_after is_taken begun ++ more → PassesPart is_taken bytes rest (next_of begun)
  part_by bytes rest more [] parts none left =
      ap trimmed parts ∙ trimmed_none shown more none ∙ ap trimmed (sym left)
  part_by bytes rest more (b ∷ begun) parts some left =
      let whole = ap trimmed parts ∙ trimmed_some shown more begun b some in (
        sym (ap first_byte whole),
        left ∙ left_more is_taken b begun more ∙ ap (left_after is_taken) (sym whole),
      )

  pub passes_held : (old new : Known) → IfSome old (λ bytes. StartsWith bytes shown)
      → Consumes old new (take n shown) → PassesHeld is_taken old new next
  passes_held None new front consumed = tt
  passes_held (Some bytes) None front consumed = absurd consumed
  passes_held (Some bytes) (Some rest) front consumed =
      let more = drop (length shown) bytes in
      let parts : bytes ≡ shown ++ more =
      sym (take-append-drop (length shown) bytes) ∙ ap (λ (l : List ℕ). l ++ more) front in
      rw is (part_by bytes rest more (trimmed shown) parts refl
      (rest_is bytes rest more parts consumed))

-- ---- a read

-- White space alone was passed over so far.
abbrev pub Passed : Known → Known → Type 0
Passed None new = ⊤
Passed (Some bytes) None = ⊥
Passed (Some bytes) (Some rest) = trimmed bytes ≡ trimmed rest
