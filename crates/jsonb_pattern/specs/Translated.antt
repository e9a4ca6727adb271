-- A pattern in the syntax of the crate `regex`.
use Rattle.std.specs.Prelude.{◌≡◌, ℕ, not, ◌&&◌, ◌==◌, if◌then◌else◌, List, [], ◌∷◌, ◌++◌}
use Rattle.std.specs.Prelude.{Option, Some, None, Result, Ok, Err, ⊤, encode_utf8_all, option_and_then}
use Rattle.regex_syntax.specs.declared.Config.{Config}
use Rattle.regex.specs.Patterns.{default_config}
use Rattle.jsonb_pattern.specs.declared.flags.Flags.{Flags}
use Rattle.jsonb_pattern.specs.declared.pattern.PatternError.{PatternError}
use Rattle.jsonb_pattern.specs.declared.pattern.PatternError.TheVariants as errors
use Rattle.jsonb_pattern.specs.declared.place.Place.{Place}
use Rattle.jsonb_pattern.specs.declared.place.Place.TheVariants as places
use Rattle.jsonb_pattern.specs.declared.place.Scan.{Scan}
use Rattle.jsonb_pattern.specs.Letters.{is_escapable, other_case}
use Rattle.jsonb_pattern.specs.Places.{first_place, may_end, place_after}

abbrev class_of : ℕ → Option ℕ → List ℕ
class_of c None = c ∷ []
class_of c (Some d) = 91 ∷ c ∷ d ∷ 93 ∷ []

-- A character outside of brackets: a letter whose case is ignored is a class of both cases.
abbrev pub cased : Flags → ℕ → List ℕ
cased flags c = class_of c (other_case flags.ignore_case c)

abbrev with_other : ℕ → Option ℕ → List ℕ
with_other c None = c ∷ []
with_other c (Some d) = d ∷ c ∷ []

-- A member of brackets: a letter whose case is ignored is there in both cases.
abbrev pub membered : Flags → ℕ → List ℕ
membered flags c = with_other c (other_case flags.ignore_case c)

abbrev and_range : ℕ → Option ℕ → Option ℕ → List ℕ
and_range b (Some c) (Some d) = b ∷ c ∷ 45 ∷ d ∷ []
and_range b c d = b ∷ []

-- The end of a range: of letters whose case is ignored, that of the other case comes after it.
abbrev pub ranged : Flags → ℕ → ℕ → List ℕ
ranged flags a b = and_range b (other_case flags.ignore_case a) (other_case flags.ignore_case b)

-- What a character is: a negated class has the line feed too, unless the dot matches it.
abbrev pub piece : Flags → Place → ℕ → List ℕ
piece flags places.Quoted c = if is_escapable c then 92 ∷ c ∷ [] else cased flags c
piece flags places.Branch c = cased flags c
piece flags places.Atom c = cased flags c
piece flags places.Fixed c = cased flags c
piece flags places.Class c =
    if (c == 94) && not flags.dot_all then 94 ∷ 10 ∷ [] else membered flags c
piece flags places.Negated c = membered flags c
piece flags (places.Member a) c = membered flags c
piece flags places.Members c = membered flags c
piece flags (places.Range a) c = ranged flags a c
piece flags place c = c ∷ []

-- The bytes so far and those of the characters left, from this place on.
abbrev pub translated_on : Flags → Scan → List ℕ → List ℕ → Option (List ℕ)
translated_on flags scan front [] = if may_end scan then Some front else None
translated_on flags scan front (c ∷ s) =
    option_and_then
    (λ next. translated_on flags next (front ++ encode_utf8_all (piece flags scan.place c)) s)
    (place_after flags scan c)

-- The text of a pattern of these characters; `None` if it is none that is read here.
abbrev pub translated : Flags → List ℕ → Option (List ℕ)
translated flags s = translated_on flags (first_place flags) [] s

-- How the crate `regex` reads it.
abbrev pub config_of : Flags → Config
config_of flags = record (default_config) {
  flags = record (default_config.flags) {
    multi_line = flags.multi_line && not flags.quoted;
    dot_matches_new_line = flags.dot_all;
  };
}

-- A refusal says that the text is no pattern that is read here. Nothing is said where memory ran out
-- or what the pattern compiles to is too large.
abbrev pub Declines : {Y : Type 0} → PatternError → Option Y → Type 0
Declines (errors.Refused f) meant = meant ≡ None
Declines errors.OutOfMemory meant = ⊤
Declines errors.TooLarge meant = ⊤

-- What a function returns, seen through `view`, is what is meant, unless it is declined.
abbrev pub Translates : {X Y : Type 0} → (X → Y) → Result X PatternError → Option Y → Type 0
Translates view (Ok x) meant = meant ≡ Some (view x)
Translates view (Err e) meant = Declines e meant
