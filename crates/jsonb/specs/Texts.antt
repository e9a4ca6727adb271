-- The texts that byte strings print as.
use Rattle.std.specs.Prelude.{ℕ, List, [], ◌∷◌, codes, encode_utf8_all}
use Rattle.bstr.specs.Utf8.{lossy_chars}
use Rattle.jsonb_value.specs.Meaning.{Meaning, document, other_bytes}
use Rattle.jsonb_value.specs.Text.{Layout, in_one_line, on_lines, compact, pretty}
use Rattle.jsonb.specs.declared.text.Layout as given
use Rattle.jsonb.specs.declared.text.Layout.TheVariants as layouts
use Rattle.jsonb.specs.ItemMeaning.{meaning_of}

-- The layout of the code as that of the specification.
abbrev pub layout_of : given.Layout → Layout
layout_of layouts.InOneLine = in_one_line
layout_of (layouts.OnLines depth) = on_lines depth

-- The bytes as text, with U+FFFD in place of invalid UTF-8.
abbrev pub lossy_text : List ℕ → List ℕ
lossy_text b = encode_utf8_all (lossy_chars b)

-- The text of bytes that are not a document.
abbrev pub other_text : List ℕ → List ℕ
other_text [] = codes "null"
other_text (x ∷ xs) = lossy_text (x ∷ xs)

-- The text of a meaning: the compact text of a document, `null` for no bytes, and other bytes as
-- text.
abbrev pub plain_text : Meaning → List ℕ
plain_text (document t) = compact t
plain_text (other_bytes b) = other_text b

-- The text that a byte string prints as.
abbrev pub display_text : List ℕ → List ℕ
display_text b = plain_text (meaning_of b)

-- The pretty text of a meaning: that of a document, and `null` for other bytes.
abbrev pub lined_text : Meaning → List ℕ
lined_text (document t) = pretty t
lined_text (other_bytes b) = codes "null"

-- The pretty text that a byte string prints as.
abbrev pub pretty_display_text : List ℕ → List ℕ
pretty_display_text b = lined_text (meaning_of b)
