-- The names in JSON pointers.
use Rattle.std.specs.Prelude.{ℕ, List, [], ◌∷◌, ◌++◌, Bool, true, false, ◌==◌, if◌then◌else◌}
use Rattle.std.specs.Prelude.{not, ◌&&◌, Option, None, Some}
use Rattle.jsonb_functions.specs.Names.{with_byte}

-- A name as a pointer writes it, with `~0` for `~` and `~1` for `/`.
abbrev pub escaped_name : List ℕ → List ℕ
escaped_name [] = []
escaped_name (c ∷ name) =
    if c == 126 then 126 ∷ (48 ∷ escaped_name name)
    else if c == 47 then 126 ∷ (49 ∷ escaped_name name)
    else c ∷ escaped_name name

-- The pointer of these names: each after a `/`.
abbrev pub pointer_of : List (List ℕ) → List ℕ
pointer_of [] = []
pointer_of (name ∷ names) = 47 ∷ (escaped_name name ++ pointer_of names)

-- The byte that is written as `~` and this one.
abbrev pub character_of : ℕ → Option ℕ
character_of c = if c == 48 then Some 126 else if c == 49 then Some 47 else None

-- One more byte in front of a name, if there is one.
abbrev pub with_character : Option ℕ → Option (List ℕ × List ℕ) → Option (List ℕ × List ℕ)
with_character None read = None
with_character (Some c) read = with_byte c read

-- The name that is written up to a `/` or the end, and the bytes from there on; none if a `~` is
-- not before `0` or `1`. The first argument is whether a `~` is right before the bytes.
abbrev pub unescaped : Bool → List ℕ → Option (List ℕ × List ℕ)
unescaped true [] = None
unescaped true (c ∷ bytes) = with_character (character_of c) (unescaped false bytes)
unescaped false [] = Some ([], [])
unescaped false (c ∷ bytes) =
    if c == 47 then Some ([], c ∷ bytes)
    else if c == 126 then unescaped true bytes
    else with_byte c (unescaped false bytes)

-- The first name of a pointer, and the bytes after it.
abbrev pub pointer_name : List ℕ → Option (List ℕ × List ℕ)
pointer_name [] = None
pointer_name (c ∷ bytes) = if c == 47 then unescaped false bytes else None

-- The byte is written as it is.
abbrev pub is_unescaped : ℕ → Bool
is_unescaped c = not (c == 47) && not (c == 126)
