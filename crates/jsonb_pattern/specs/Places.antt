-- Which character may come after which in a pattern.
use Rattle.std.specs.Prelude.{ℕ, ◌+◌, ◌-◌, ◌*◌, Bool, true, false, not, ◌&&◌, ◌||◌, ◌==◌, nat_eq}
use Rattle.std.specs.Prelude.{nat_le, nat_lt, if◌then◌else◌, Option, Some, None}
use Rattle.std.specs.Prelude.{option_map}
use Rattle.std.specs.Char.{is_ascii_digit, is_ascii_lowercase, is_ascii_uppercase}
use Rattle.jsonb_pattern.specs.declared.flags.Flags.{Flags}
use Rattle.jsonb_pattern.specs.declared.place.Place.{Place}
use Rattle.jsonb_pattern.specs.declared.place.Place.TheVariants as places
use Rattle.jsonb_pattern.specs.declared.place.Scan.{Scan}
use Rattle.jsonb_pattern.specs.Letters.{is_class_member, is_escapable, is_literal, is_readable}

abbrev pub at_depth : ℕ → Place → Scan
at_depth depth place = record { place = place; depth = depth }

abbrev pub first_place : Flags → Scan
first_place flags = at_depth 0 (if flags.quoted then places.Quoted else places.Branch)

abbrev ends_at : Place → ℕ → Bool
ends_at places.Quoted depth = true
ends_at places.Atom depth = nat_eq depth 0
ends_at places.Fixed depth = nat_eq depth 0
ends_at place depth = false

-- A pattern ends after an atom or what follows it, where no group is open.
abbrev pub may_end : Scan → Bool
may_end scan = ends_at scan.place scan.depth

-- An atom other than a group begins with `[`, a backslash, `^`, `$`, `.` or a character that stands
-- for itself.
abbrev pub begun_by : ℕ → Option Place
begun_by c =
    if c == 91 then Some places.Class
    else if c == 92 then Some places.Escape
    else if (c == 94) || (c == 36) then Some places.Fixed
    else if c == 46 then Some places.Atom
    else if is_literal c then Some places.Atom
    else None

-- A group begins with `(`; at most 100 are open in one another.
abbrev pub begin_after : ℕ → ℕ → Option Scan
begin_after depth c =
    if c == 40 then (if nat_lt depth 100 then Some (at_depth (depth + 1) places.Branch) else None)
    else option_map (at_depth depth) (begun_by c)

-- After something of a branch another branch may begin, or a group end.
abbrev pub branch_after : ℕ → ℕ → Option Scan
branch_after depth c =
    if c == 124 then Some (at_depth depth places.Branch)
    else if c == 41 then (if nat_lt 0 depth then Some (at_depth (depth - 1) places.Atom) else None)
    else begin_after depth c

-- An atom may be repeated, by `*`, `+`, `?` or a bound.
abbrev pub atom_after : ℕ → ℕ → Option Scan
atom_after depth c =
    if (c == 42) || (c == 43) || (c == 63) then Some (at_depth depth places.Fixed)
    else if c == 123 then Some (at_depth depth places.Bound)
    else branch_after depth c

-- A number with one more digit, up to 255.
abbrev pub with_digit : ℕ → ℕ → Option ℕ
with_digit n c =
    if is_ascii_digit c && nat_le n 255 && nat_le (n * 10 + (c - 48)) 255
    then Some (n * 10 + (c - 48)) else None

abbrev pub escaped_to : Place → ℕ → Option Place
escaped_to place c = if is_escapable c then Some place else None

abbrev pub member_after : ℕ → Option Place
member_after c =
    if c == 92 then Some places.ClassEscape
    else if is_class_member c then Some (places.Member c)
    else None

-- Both are small letters, both capital letters or both digits.
abbrev pub is_of_one_kind : ℕ → ℕ → Bool
is_of_one_kind a b = (is_ascii_lowercase a && is_ascii_lowercase b)
    || (is_ascii_uppercase a && is_ascii_uppercase b) || (is_ascii_digit a && is_ascii_digit b)

-- A range is in order, and of one kind if case is ignored.
abbrev pub is_range : Bool → ℕ → ℕ → Bool
is_range ignore_case a b =
    is_class_member b && nat_le a b && (not ignore_case || is_of_one_kind a b)

-- Within quotes, escapes, bounds and brackets.
abbrev pub inside_after : Flags → Place → ℕ → Option Place
inside_after flags places.Quoted c = Some places.Quoted
inside_after flags places.Branch c = None
inside_after flags places.Atom c = None
inside_after flags places.Fixed c = None
inside_after flags places.Escape c = escaped_to places.Atom c
inside_after flags places.Bound c = option_map places.Least (with_digit 0 c)
inside_after flags (places.Least n) c =
    if c == 44 then Some (places.Comma n) else if c == 125 then Some places.Fixed
    else option_map places.Least (with_digit n c)
inside_after flags (places.Comma n) c =
    if c == 125 then Some places.Fixed else option_map (places.Most n) (with_digit 0 c)
inside_after flags (places.Most n m) c =
    if (c == 125) && nat_le n m then Some places.Fixed
    else option_map (places.Most n) (with_digit m c)
inside_after flags places.Class c = if c == 94 then Some places.Negated else member_after c
inside_after flags places.Negated c = member_after c
inside_after flags (places.Member a) c =
    if c == 93 then Some places.Atom else if c == 45 then Some (places.Range a)
    else member_after c
inside_after flags places.Members c = if c == 93 then Some places.Atom else member_after c
inside_after flags (places.Range a) c =
    if is_range flags.ignore_case a c then Some places.Members else None
inside_after flags places.ClassEscape c = escaped_to places.Members c

abbrev after_at : Flags → Place → ℕ → ℕ → Option Scan
after_at flags places.Branch depth c = begin_after depth c
after_at flags places.Atom depth c = atom_after depth c
after_at flags places.Fixed depth c = branch_after depth c
after_at flags place depth c = option_map (at_depth depth) (inside_after flags place c)

-- Where a character leads, if it may come there.
abbrev pub place_after : Flags → Scan → ℕ → Option Scan
place_after flags scan c =
    if is_readable flags.ignore_case c then after_at flags scan.place scan.depth c else None
