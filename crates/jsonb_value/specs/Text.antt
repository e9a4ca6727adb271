-- The texts of numbers, strings, extension values and whole trees, as bytes.
use Rattle.std.specs.Prelude.{take, length, ◌-◌, ◌≡◌, ◌<◌, ◌≤◌, get_or, ℕ, zero, suc, ◌*◌, ◌+◌, ◌/◌}
use Rattle.std.specs.Prelude.{◌%◌, ◌^◌, min, ℤ, Bool, true, false, ◌||◌, ◌==◌, nat_lt, if◌then◌else◌, List}
use Rattle.std.specs.Prelude.{[], ◌∷◌, ◌++◌, codes, replicate, flat_map, decimal, unsigned_abs}
use Rattle.std.specs.Int.{is_negative}
use Rattle.std.specs.Simd.Lanes.{chunk}
use Rattle.std.specs.Fmt.{signed_decimal, sign_text, digit_glyph}
use Rattle.jsonb_value.specs.declared.number.Number.{Number}
use Rattle.jsonb_value.specs.declared.number.Number.TheVariants.{Int64, UInt64, Decimal64}
use Rattle.jsonb_value.specs.declared.number.Number.TheVariants.{Decimal128}
use Rattle.jsonb_value.specs.Tree.{Extension, binary, date, timestamp, timestamp_tz, interval}
use Rattle.jsonb_value.specs.Tree.{opaque, Tree, null, boolean, number, text, extension, array}
use Rattle.jsonb_value.specs.Tree.{object, Trees, no_trees, tree, Pairs, no_pairs, pair}

-- The number without its last `scale` decimal digits.
abbrev pub front_of : ℕ → ℕ → ℕ
front_of zero m = m
front_of (suc scale) m = front_of scale (m / 10)

-- The last `scale` decimal digits of a number, padded with zeros.
abbrev pub last_digits : ℕ → ℕ → List ℕ
last_digits zero m = []
last_digits (suc scale) m = last_digits scale (m / 10) ++ (48 + m % 10) ∷ []

-- A magnitude with a point before its last `scale` digits.
abbrev pub point_text : ℕ → ℕ → List ℕ
point_text scale m = decimal (front_of scale m) ++ (codes "." ++ last_digits scale m)

-- The text of a decimal: without a point if the scale is 0, and with `-` exactly if the value is
-- negative.
abbrev pub decimal_text : ℕ → ℤ → List ℕ
decimal_text zero value = signed_decimal value
decimal_text (suc s) value =
    sign_text (is_negative value) ++ point_text (suc s) (unsigned_abs value)

-- The text of a number.
abbrev pub number_text : Number → List ℕ
number_text (Int64 value) = signed_decimal value
number_text (UInt64 value) = decimal value
number_text (Decimal64 d) = decimal_text d.scale d.value
number_text (Decimal128 d) = decimal_text d.scale d.value

-- A byte as two lower-case hexadecimal digits.
abbrev pub hex_byte : ℕ → List ℕ
hex_byte b = digit_glyph false (b / 16) ∷ digit_glyph false (b % 16) ∷ []

-- Bytes in lower-case hexadecimal.
abbrev pub hex_text : List ℕ → List ℕ
hex_text bytes = flat_map hex_byte bytes

-- The byte is escaped in a string: `"`, `\` or a byte below 0x20.
abbrev pub is_escaped : ℕ → Bool
is_escaped b = b == 34 || b == 92 || nat_lt b 32

-- No byte at a position from `from` up to, but not including, `upto` is escaped.
abbrev pub NoneEscaped : List ℕ → ℕ → ℕ → Type 0
NoneEscaped bytes from upto = (k : ℕ) → from ≤ k → k < upto → is_escaped (get_or bytes k 0) ≡ false

-- The first n bytes, followed by the last n bytes.
abbrev pub ends : ℕ → List ℕ → List ℕ
ends n bytes = take n bytes ++ chunk (length bytes - n) n bytes

-- The escape of a byte: a backslash and the byte itself, its letter, or `u00` and two digits.
abbrev pub escape : ℕ → List ℕ
escape b =
    if b == 34 || b == 92 then codes "\\" ++ b ∷ []
    else if b == 8 then codes "\\b"
    else if b == 9 then codes "\\t"
    else if b == 10 then codes "\\n"
    else if b == 12 then codes "\\f"
    else if b == 13 then codes "\\r"
    else codes "\\u00" ++ hex_byte b

-- The text of a byte inside a string.
abbrev pub byte_text : ℕ → List ℕ
byte_text b = if is_escaped b then escape b else b ∷ []

-- The content between quotes.
abbrev pub quoted_text : List ℕ → List ℕ
quoted_text content = codes "\"" ++ (content ++ codes "\"")

-- The text of a string: its bytes, escaped where needed, between quotes.
abbrev pub string_text : List ℕ → List ℕ
string_text bytes = quoted_text (flat_map byte_text bytes)

-- The text of an extension value, without quotes.
abbrev pub extension_text : Extension → List ℕ
extension_text (binary bytes) = hex_text bytes
extension_text (date d) = signed_decimal d.value
extension_text (timestamp t) = signed_decimal t.value
extension_text (timestamp_tz t) = signed_decimal t.value ++ (codes " " ++ signed_decimal t.offset)
extension_text (interval i) = signed_decimal i.months
    ++ (codes " " ++ (signed_decimal i.days ++ (codes " " ++ signed_decimal i.micros)))
extension_text (opaque tag bytes) = hex_text (tag ∷ bytes)

-- The layout of a tree: on one line without white space, or on several lines, nested in this many
-- containers.
pub data Layout : Type 0 where
  in_one_line : Layout
  on_lines : ℕ → Layout

-- The layout of a container's content.
abbrev pub inside : Layout → Layout
inside in_one_line = in_one_line
inside (on_lines depth) = on_lines (suc depth)

-- What precedes an item or a closing bracket: nothing, or a line feed and two spaces for each
-- enclosing container.
abbrev pub line_start : Layout → List ℕ
line_start in_one_line = []
line_start (on_lines depth) = 10 ∷ replicate (2 * depth) 32

-- What separates a key from its value: a colon, followed by a space if the layout is on several
-- lines.
abbrev pub colon_text : Layout → List ℕ
colon_text in_one_line = codes ":"
colon_text (on_lines depth) = codes ": "

abbrev mutual
  -- The text of a tree in a layout.
  pub laid_out : Layout → Tree → List ℕ
  laid_out l null = codes "null"
  laid_out l (boolean true) = codes "true"
  laid_out l (boolean false) = codes "false"
  laid_out l (number x) = number_text x
  laid_out l (text s) = string_text s
  laid_out l (extension e) = quoted_text (extension_text e)
  laid_out l (array no_trees) = codes "[]"
  laid_out l (array (tree t ts)) =
      codes "["
      ++ (line_start (inside l)
      ++ (laid_out (inside l) t ++ (more_items (inside l) ts ++ (line_start l ++ codes "]"))))
  laid_out l (object no_pairs) = codes "{}"
  laid_out l (object (pair k t ps)) =
      codes "{"
      ++ (line_start (inside l)
      ++ (string_text k
      ++ (colon_text l
      ++ (laid_out (inside l) t ++ (more_pairs (inside l) ps ++ (line_start l ++ codes "}"))))))

  -- The text of an array's items after the first.
  pub more_items : Layout → Trees → List ℕ
  more_items l no_trees = []
  more_items l (tree t ts) = codes "," ++ (line_start l ++ (laid_out l t ++ more_items l ts))

  -- The text of an object's pairs after the first.
  pub more_pairs : Layout → Pairs → List ℕ
  more_pairs l no_pairs = []
  more_pairs l (pair k t ps) = codes ","
      ++ (line_start l ++ (string_text k ++ (colon_text l ++ (laid_out l t ++ more_pairs l ps))))

-- A length in 64 bits: a greater one is the greatest that they have.
abbrev pub length_64 : List ℕ → ℕ
length_64 bytes = min (length bytes) (2 ^ 64 - 1)

-- The compact text, without white space.
abbrev pub compact : Tree → List ℕ
compact t = laid_out in_one_line t

-- The pretty text, with each item of a container on its own line.
abbrev pub pretty : Tree → List ℕ
pretty t = laid_out (on_lines 0) t
