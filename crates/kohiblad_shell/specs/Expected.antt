-- What could have come where a line is wrong, in words.
use Rattle.std.specs.Prelude.{◌==◌, ◌/◌, ◌%◌, ℕ, Bool, true, false, List, [], ◌∷◌, ◌++◌, codes}
use Rattle.std.specs.Prelude.{Option, None, Some, encode_utf8_all, if◌then◌else◌}
use Rattle.kohiblad_shell.specs.Escapes.{shown_char}

-- What may come in a text, by the bits of the library's classes.
abbrev pub class_names : List (List ℕ)
class_names = codes "the rest of a string" ∷ codes "a value" ∷ codes "a key" ∷ codes "an escape"
    ∷ codes "a hexadecimal digit" ∷ codes "the other half of a surrogate pair"
    ∷ codes "a digit" ∷ codes "a sign" ∷ codes "'.'" ∷ codes "':'" ∷ codes "','" ∷ codes "']'"
    ∷ codes "'}'" ∷ codes "an exponent" ∷ codes "'a'" ∷ codes "'e'" ∷ codes "'l'" ∷ codes "'r'"
    ∷ codes "'s'" ∷ codes "'u'" ∷ codes "the end" ∷ []

-- What stands before a name, whose bit is the lowest of those that are left.
abbrev pub mark_before : Bool → ℕ → List ℕ
mark_before true bits = codes ": expected "
mark_before false bits = if bits == 1 then codes " or " else codes ", "

-- Those of these names whose bits are set, from the lowest bit on: with commas between them, and a
-- word before the last.
abbrev pub listed_classes : Bool → ℕ → List (List ℕ) → List ℕ
listed_classes is_first bits [] = []
listed_classes is_first bits (name ∷ names) =
    if bits % 2 == 1
    then mark_before is_first bits ++ (name ++ listed_classes false (bits / 2) names)
    else listed_classes is_first (bits / 2) names

-- A character between quotes, as a terminal may show it.
abbrev pub quoted_character : ℕ → List ℕ
quoted_character character = if character == 39 then codes "\"'\""
    else codes "'" ++ encode_utf8_all (shown_char character) ++ codes "'"

-- What came: a character, or the end.
abbrev pub found_text : Option ℕ → List ℕ
found_text None = codes ", found the end"
found_text (Some character) = codes ", found " ++ quoted_character character

-- What could have come, of these classes, and what came.
unfoldable pub explained_text : ℕ → Option ℕ → List ℕ
explained_text classes found = listed_classes true classes class_names ++ found_text found

-- The same; nothing if there are no classes.
abbrev pub expected_text : ℕ → Option ℕ → List ℕ
expected_text classes found = if classes == 0 then [] else explained_text classes found
