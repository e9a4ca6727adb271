-- Reading from left to right, as functions on characters.
use Rattle.std.specs.Prelude.{ℕ, zero, suc, ℤ, pos, ◌-ℤ◌, Bool, true, false, cond, ◌==◌, ◌&&◌}
use Rattle.std.specs.Prelude.{List, [], ◌∷◌, ◌++◌, length, Option, Some, None, encode_utf8, codes}
use Rattle.std.specs.Char.{is_ascii_digit}
use Rattle.std.specs.Ordering.{nat_cmp}
use Rattle.std.specs.Cmp.Lexicographic.{slice_cmp}
use Rattle.std.specs.Str.Parse.{digits_value}
use Rattle.std.specs.BTreeMap.{insert_entry}
use Rattle.jsonb_value.specs.declared.number.Number.{Number}
use Rattle.jsonb_value.specs.declared.parser.number.Exponents.{Exponents}
use Rattle.jsonb_value.specs.declared.parser.number.Exponents.TheVariants.{Forbidden, Allowed}
use Rattle.jsonb_value.specs.Tree.{Tree, null, array, object, text, number, boolean, no_trees}
use Rattle.jsonb_value.specs.Tree.{no_pairs}
use Rattle.jsonb_value.specs.Value.{trees_of}
use Rattle.jsonb_value.specs.Json.Characters.{quote, plus, comma, minus, point, zero_digit, colon}
use Rattle.jsonb_value.specs.Json.Characters.{open_bracket, backslash, close_bracket, letter_u}
use Rattle.jsonb_value.specs.Json.Characters.{open_brace, close_brace, is_blank, is_exponent_mark}
use Rattle.jsonb_value.specs.Json.Bind.{◌>>=◌}
use Rattle.jsonb_value.specs.Json.Numeral.{signed_number, scaled_number}
use Rattle.jsonb_value.specs.Json.Piece.{unit4, unit_value, escape_value, unit_character}
use Rattle.jsonb_value.specs.Json.Piece.{pair_character, is_plain, is_high}
use Rattle.jsonb_value.specs.Json.Syntax.{Entries, pairs}

-- A function that reads a value at the start of the characters and returns the characters after it.
abbrev pub Reader : Type 0 → Type 0
Reader A = List ℕ → Option (A × List ℕ)

-- The characters without leading white space.
abbrev pub skip_blank : List ℕ → List ℕ
skip_blank [] = []
skip_blank (c ∷ s) = cond (is_blank c) (skip_blank s) (c ∷ s)

-- The leading digits.
abbrev pub front_digits : List ℕ → List ℕ
front_digits [] = []
front_digits (c ∷ s) = cond (is_ascii_digit c) (c ∷ front_digits s) []

-- The characters after the leading digits.
abbrev pub after_digits : List ℕ → List ℕ
after_digits [] = []
after_digits (c ∷ s) = cond (is_ascii_digit c) (after_digits s) (c ∷ s)

-- Whether the characters begin with a minus, and the characters after it.
abbrev pub read_sign : List ℕ → Bool × List ℕ
read_sign [] = (false, [])
read_sign (c ∷ s) = cond (c == minus) (true, s) (false, c ∷ s)

-- Reads `0`, or digits that begin with another digit.
abbrev pub read_whole : Reader (List ℕ)
read_whole [] = None
read_whole (c ∷ s) = cond (is_ascii_digit c)
    (cond (c == zero_digit) (Some (c ∷ [], s)) (Some (c ∷ front_digits s, after_digits s))) None

-- Reads digits, at least one.
abbrev pub some_digits : Reader (List ℕ)
some_digits [] = None
some_digits (c ∷ s) = cond (is_ascii_digit c) (Some (c ∷ front_digits s, after_digits s)) None

-- Reads a point and its digits, or nothing if there is no point.
abbrev pub read_fraction : Reader (List ℕ)
read_fraction [] = Some ([], [])
read_fraction (c ∷ s) = cond (c == point) (some_digits s) (Some ([], c ∷ s))

-- Whether the characters begin with a minus, and the characters after that or after a plus.
abbrev pub read_either_sign : List ℕ → Bool × List ℕ
read_either_sign [] = (false, [])
read_either_sign (c ∷ s) = cond (c == plus) (false, s) (read_sign (c ∷ s))

-- Reads an integer: digits, at least one, after a sign or none.
abbrev pub read_integer : Reader ℤ
read_integer s =
    some_digits (read_either_sign s).1 >>= λ digits.
    Some (signed_number (read_either_sign s).0 (digits_value 10 digits.0), digits.1)

-- Reads an exponent, or nothing, which means 0, if there is none or exponents are forbidden.
abbrev pub read_exponent : Exponents → Reader ℤ
read_exponent Forbidden s = Some (pos 0, s)
read_exponent Allowed [] = Some (pos 0, [])
read_exponent Allowed (c ∷ s) = cond (is_exponent_mark c) (read_integer s) (Some (pos 0, c ∷ s))

-- Reads a number.
abbrev pub read_number : Exponents → Reader Number
read_number rule s =
    read_whole (read_sign s).1 >>= λ whole.
    read_fraction whole.1 >>= λ fraction.
    read_exponent rule fraction.1 >>= λ exponent.
    scaled_number (pos (length fraction.0) -ℤ exponent.0)
    (signed_number (read_sign s).0 (digits_value 10 (whole.0 ++ fraction.0))) >>= λ n.
    Some (n, exponent.1)

-- ---- strings, after the opening quote

-- Reads four hexadecimal digits.
abbrev pub read_unit : Reader ℕ
read_unit (a ∷ b ∷ c ∷ d ∷ s) = unit_value (unit4 a b c d) >>= λ u. Some (u, s)
read_unit _ = None

-- Reads `\u` and four hexadecimal digits.
abbrev pub read_second : Reader ℕ
read_second (b ∷ u ∷ s) = cond ((b == backslash) && (u == letter_u)) (read_unit s) None
read_second _ = None

-- Reads the rest of the character whose first unit is u.
abbrev pub read_character : ℕ → Reader ℕ
read_character u s =
    cond (is_high u)
    (read_second s >>= λ low. pair_character u low.0 >>= λ c. Some (c, low.1))
    (unit_character u >>= λ c. Some (c, s))

-- Reads an escape after its backslash.
abbrev pub read_escape : Reader ℕ
read_escape [] = None
read_escape (c ∷ s) = cond (c == letter_u) (read_unit s >>= λ u. read_character u.0 u.1)
    (escape_value c >>= λ x. Some (x, s))

-- Reads one character, escaped or not.
abbrev pub read_piece : Reader ℕ
read_piece [] = None
read_piece (c ∷ s) = cond (c == backslash) (read_escape s) (cond (is_plain c) (Some (c, s)) None)

-- Reads the rest of a string, whose bytes so far are `front`. The first argument bounds the number
-- of steps: one more than the count of the characters is enough, here and below.
unfoldable pub read_text : ℕ → List ℕ → Reader (List ℕ)
read_text zero front s = None
read_text (suc n) front [] = None
read_text (suc n) front (c ∷ s) = cond (c == quote) (Some (front, s))
    (read_piece (c ∷ s) >>= λ p. read_text n (front ++ encode_utf8 p.0) p.1)

-- ---- values

-- The characters after k, if they begin with it.
abbrev pub expect : ℕ → List ℕ → Option (List ℕ)
expect k [] = None
expect k (c ∷ s) = cond (c == k) (Some s) None

-- The characters after these, if they begin with them.
abbrev pub expect_all : List ℕ → List ℕ → Option (List ℕ)
expect_all [] s = Some s
expect_all (k ∷ ks) s = expect k s >>= expect_all ks

-- Reads the rest of a word that means the tree.
abbrev pub read_word : List ℕ → Tree → Reader Tree
read_word ks t s = expect_all ks s >>= λ rest. Some (t, rest)

-- Reads a value with white space around it.
abbrev pub read_element : Reader Tree → Reader Tree
read_element value s = value (skip_blank s) >>= λ x. Some (x.0, skip_blank x.1)

-- Reads the rest of an array after an item: a comma and more items, or the closing bracket.
abbrev pub after_item : (List Tree → Reader Tree) → List Tree → Reader Tree
after_item more front [] = None
after_item more front (c ∷ s) = cond (c == comma) (more front s)
    (cond (c == close_bracket) (Some (array (trees_of front), s)) None)

-- Reads items up to the closing bracket, after the items of `front`.
unfoldable pub read_items : Reader Tree → ℕ → List Tree → Reader Tree
read_items value zero front s = None
read_items value (suc n) front s =
    read_element value s >>= λ x. after_item (read_items value n) (front ++ x.0 ∷ []) x.1

-- The empty container if it was read, otherwise the other result.
abbrev pub empty_or : Option (List ℕ) → Tree → Option (Tree × List ℕ) → Option (Tree × List ℕ)
empty_or (Some rest) t other = Some (t, rest)
empty_or None t other = other

-- Reads an array after its opening bracket.
abbrev pub read_array : Reader Tree → ℕ → Reader Tree
read_array value n s =
    empty_or (expect close_bracket (skip_blank s)) (array no_trees) (read_items value n [] s)

-- Reads a key, its colon and its value.
abbrev pub read_member : Reader Tree → ℕ → Reader (List ℕ × Tree)
read_member value n s =
    expect quote (skip_blank s) >>= λ opened.
    read_text n [] opened >>= λ key.
    expect colon (skip_blank key.1) >>= λ later.
    read_element value later >>= λ x.
    Some ((key.0, x.0), x.1)

-- Reads the rest of an object after a member: a comma and more members, or the closing brace.
abbrev pub after_member : (Entries → Reader Tree) → Entries → Reader Tree
after_member more front [] = None
after_member more front (c ∷ s) =
    cond (c == comma) (more front s) (cond (c == close_brace) (Some (object (pairs front), s)) None)

-- Reads members up to the closing brace, after the members of `front`.
unfoldable pub read_members : Reader Tree → ℕ → Entries → Reader Tree
read_members value zero front s = None
read_members value (suc n) front s = read_member value n s
    >>= λ m. after_member (read_members value n)
    (insert_entry (slice_cmp nat_cmp) front m.0.0 m.0.1) m.1

-- Reads an object after its opening brace.
abbrev pub read_object : Reader Tree → ℕ → Reader Tree
read_object value n s =
    empty_or (expect close_brace (skip_blank s)) (object no_pairs) (read_members value n [] s)

-- The kind of a value, known from its first character.
pub data Kind : Type 0 where
  null_kind : Kind
  true_kind : Kind
  false_kind : Kind
  string_kind : Kind
  array_kind : Kind
  object_kind : Kind
  number_kind : Kind

-- The kind of a value that begins with the character c.
abbrev pub kind_begun : ℕ → Kind
kind_begun c =
    cond (c == 110) null_kind (cond (c == 116) true_kind (cond (c == 102) false_kind
    (cond (c == quote) string_kind
    (cond (c == open_bracket) array_kind (cond (c == open_brace) object_kind number_kind)))))

-- Reads a value of this kind whose first character c was read already.
abbrev pub read_kind : Exponents → Reader Tree → ℕ → Kind → ℕ → Reader Tree
read_kind rule value n null_kind c s = read_word (codes "ull") null s
read_kind rule value n true_kind c s = read_word (codes "rue") (boolean true) s
read_kind rule value n false_kind c s = read_word (codes "alse") (boolean false) s
read_kind rule value n string_kind c s = read_text n [] s >>= λ x. Some (text x.0, x.1)
read_kind rule value n array_kind c s = read_array value n s
read_kind rule value n object_kind c s = read_object value n s
read_kind rule value n number_kind c s = read_number rule (c ∷ s) >>= λ x. Some (number x.0, x.1)

-- Reads a value.
unfoldable pub read_value : Exponents → ℕ → Reader Tree
read_value rule zero s = None
read_value rule (suc n) [] = None
read_value rule (suc n) (c ∷ s) = read_kind rule (read_value rule n) n (kind_begun c) c s

-- The tree, if no characters are left.
abbrev pub if_last : Tree → List ℕ → Option Tree
if_last t [] = Some t
if_last t (c ∷ s) = None

-- The tree of a whole text.
abbrev pub read_document : Exponents → List ℕ → Option Tree
read_document rule s = read_element (read_value rule (suc (length s))) s >>= λ x. if_last x.0 x.1
