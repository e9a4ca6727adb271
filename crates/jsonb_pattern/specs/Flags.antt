-- The flags of a pattern.
use Rattle.std.specs.Prelude.{ℕ, false, true, ◌==◌, if◌then◌else◌, List, [], ◌∷◌, Option, Some, None}
use Rattle.std.specs.Prelude.{option_and_then}
use Rattle.jsonb_pattern.specs.declared.flags.Flags.{Flags}

abbrev pub no_flags : Flags
no_flags = record { ignore_case = false; dot_all = false; multi_line = false; quoted = false }

-- These flags and that of a letter: `i`, `s`, `m` or `q`.
abbrev pub with_flag : Flags → ℕ → Option Flags
with_flag flags c =
    if c == 105 then Some (record flags { ignore_case = true })
    else if c == 115 then Some (record flags { dot_all = true })
    else if c == 109 then Some (record flags { multi_line = true })
    else if c == 113 then Some (record flags { quoted = true })
    else None

-- These flags and those of all letters.
abbrev pub flags_of : Flags → List ℕ → Option Flags
flags_of flags [] = Some flags
flags_of flags (c ∷ s) = option_and_then (λ more. flags_of more s) (with_flag flags c)
