-- Leading digits of a text.
use Rattle.std.proofs.Common.{arith}
use Rattle.std.proofs.Common.{◌≡◌, ℕ, Bool, true, refl, ap, List, [], ◌∷◌, ◌++◌}
use Rattle.std.specs.Prelude.{◌&&◌, not, ◌==◌}
use Rattle.std.specs.Char.{is_ascii_digit}
use Rattle.jsonb_value.specs.Json.Characters.{all_digits, is_exponent_mark, point}
use Rattle.jsonb_value.specs.Reader.Reading.{front_digits, after_digits}
use Rattle.jsonb_value.proofs.Json.Tests.{and_true}

pub digits-split : (s : List ℕ) → s ≡ front_digits s ++ after_digits s
digits-split [] = refl
digits-split (c ∷ s) = grind (arith, digits-split s)

pub all_digits-front : (s : List ℕ) → all_digits (front_digits s) ≡ true
all_digits-front [] = refl
all_digits-front (c ∷ s) = grind (arith, all_digits-front s)

-- the characters begin with neither a digit nor a point
abbrev pub stops : List ℕ → Bool
stops [] = true
stops (c ∷ s) = not (is_ascii_digit c) && not (c == point)

-- nor with the mark of an exponent
abbrev pub no_mark : List ℕ → Bool
no_mark [] = true
no_mark (c ∷ s) = not (is_exponent_mark c)

-- no character at the start continues a number
abbrev pub ends_number : List ℕ → Bool
ends_number s = stops s && no_mark s

pub front_digits-end : (s : List ℕ) → stops s ≡ true → front_digits s ≡ []
front_digits-end s e = grind arith

pub after_digits-end : (s : List ℕ) → stops s ≡ true → after_digits s ≡ s
after_digits-end s e = grind arith

pub front_digits-append : (ds s : List ℕ) → all_digits ds ≡ true → front_digits s ≡ []
    → front_digits (ds ++ s) ≡ ds
front_digits-append [] s all none = none
front_digits-append (d ∷ ds) s all none =
    let is : is_ascii_digit d ≡ true = (and_true _ _ all).0 in
    rw is (ap (λ t. d ∷ t) (front_digits-append ds s (and_true _ _ all).1 none))

pub after_digits-append : (ds s : List ℕ) → all_digits ds ≡ true → after_digits s ≡ s
    → after_digits (ds ++ s) ≡ s
after_digits-append [] s all none = none
after_digits-append (d ∷ ds) s all none =
    let is : is_ascii_digit d ≡ true = (and_true _ _ all).0 in
    rw is (after_digits-append ds s (and_true _ _ all).1 none)
