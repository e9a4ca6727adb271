-- What a pattern means: the crate `regex` says what is found.
use Rattle.std.specs.Prelude.{◌≡◌, ◌<◌, All, ℕ, Bool, false, nat_le, List, chars, if◌then◌else◌}
use Rattle.std.specs.Prelude.{Option, Some, None, is_some, option_and_then}
use Rattle.regex.specs.Patterns.{Config, Re, find_str}
use Rattle.regex_syntax.specs.Brackets.{Nested}
use Rattle.regex_syntax.specs.Grammar.{Names, read}
use Rattle.jsonb_pattern.specs.declared.flags.Flags.{Flags}
use Rattle.jsonb_pattern.specs.Translated.{config_of, translated}

-- A pattern as it is written, in bytes, and its flags.
pub record Written : Type 0 where
  pub source : List ℕ
  pub flags : Flags

abbrev pub within : ℕ → Option (Nested Re × Names) → Option Re
within most None = None
within most (Some x) = if nat_le x.0.depth most then Some x.0.value else None

-- The expression that the crate `regex` reads in a text.
abbrev pub expression_in : Config → List ℕ → Option Re
expression_in config text = within config.nest_limit (read config (chars text))

-- The expression of a pattern, if it is one that is read here.
abbrev pub denoted : Written → Option Re
denoted w =
    option_and_then (expression_in (config_of w.flags)) (translated w.flags (chars w.source))

abbrev pub found_in : List ℕ → Option Re → Bool
found_in text None = false
found_in text (Some re) = is_some (find_str re text 0)

-- The pattern is found somewhere in a text.
abbrev pub is_found : Written → List ℕ → Bool
is_found w text = found_in text (denoted w)

-- The pattern, if it is one that is read here.
abbrev pub pattern_of : Written → Option Written
pattern_of w = if is_some (denoted w) then Some w else None

-- A search for an expression finds the pattern of this text and flags, in texts as bytes.
abbrev pub SearchesFor : List ℕ → Flags → Re → Type 0
SearchesFor source flags re = (text : List ℕ) → All (λ b. b < 256) text
    → is_some (find_str re text 0) ≡ is_found (record { source = source; flags = flags }) text
