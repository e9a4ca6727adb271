-- The characters of patterns.
use Rattle.std.specs.Prelude.{ℕ, Bool, not, ◌&&◌, ◌||◌, ◌==◌, nat_le, if◌then◌else◌}
use Rattle.std.specs.Prelude.{Option, Some, None}
use Rattle.std.specs.Char.{is_ascii, is_ascii_lowercase, is_ascii_uppercase}
use Rattle.std.specs.Char.{to_ascii_lowercase, to_ascii_uppercase}

-- Outside of brackets it stands for itself: all but `. * + ? ( ) [ ] { } | ^ $ \`.
abbrev pub is_literal : ℕ → Bool
is_literal c =
    not ((c == 46) || (c == 42) || (c == 43) || (c == 63) || (c == 40) || (c == 41) || (c == 91)
    || (c == 93) || (c == 123) || (c == 125) || (c == 124) || (c == 94) || (c == 36) || (c == 92))

-- In brackets it stands for itself: all but `[ ] \ ^ - & ~`.
abbrev pub is_class_member : ℕ → Bool
is_class_member c =
    not ((c == 91) || (c == 93) || (c == 92) || (c == 94) || (c == 45) || (c == 38) || (c == 126))

abbrev is_between : ℕ → ℕ → ℕ → Bool
is_between a b c = nat_le a c && nat_le c b

-- After a backslash it stands for itself: ASCII punctuation but `<` and `>`.
abbrev pub is_escapable : ℕ → Bool
is_escapable c = is_between 33 47 c || (c == 58) || (c == 59) || (c == 61) || (c == 63) || (c == 64)
    || is_between 91 96 c || is_between 123 126 c

-- In a pattern that ignores case only ASCII may stand.
abbrev pub is_readable : Bool → ℕ → Bool
is_readable ignore_case c = not ignore_case || is_ascii c

-- An ASCII letter in the other case, if case is ignored.
abbrev pub other_case : Bool → ℕ → Option ℕ
other_case ignore_case c =
    if not ignore_case then None
    else if is_ascii_lowercase c then Some (to_ascii_uppercase c)
    else if is_ascii_uppercase c then Some (to_ascii_lowercase c)
    else None
