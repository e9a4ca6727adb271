-- Which classes of characters may come next, where it is known which characters may.
use Rattle.std.specs.Prelude.{ℕ, ◌+◌, Bool, cond, not, ◌&&◌, ◌||◌, is_some}
use Rattle.json_fault.specs.declared.classes.Next.{Next}
use Rattle.json_fault.specs.declared.classes.TheConstants.{EXPECTED_END, EXPECTED_VALUE}
use Rattle.json_fault.specs.declared.classes.TheConstants.{EXPECTED_KEY, EXPECTED_COLON}
use Rattle.json_fault.specs.declared.classes.TheConstants.{EXPECTED_COMMA, EXPECTED_ARRAY_END}
use Rattle.json_fault.specs.declared.classes.TheConstants.{EXPECTED_OBJECT_END, EXPECTED_STRING}
use Rattle.json_fault.specs.declared.classes.TheConstants.{EXPECTED_ESCAPE, EXPECTED_HEX_DIGIT}
use Rattle.json_fault.specs.declared.classes.TheConstants.{EXPECTED_LOW_HALF, EXPECTED_DIGIT}
use Rattle.json_fault.specs.declared.classes.TheConstants.{EXPECTED_SIGN, EXPECTED_POINT}
use Rattle.json_fault.specs.declared.classes.TheConstants.{EXPECTED_EXPONENT, EXPECTED_A}
use Rattle.json_fault.specs.declared.classes.TheConstants.{EXPECTED_E, EXPECTED_L, EXPECTED_R}
use Rattle.json_fault.specs.declared.classes.TheConstants.{EXPECTED_S, EXPECTED_U}
use Rattle.json_fault.specs.Scan.{followed}

-- The character may come where the scan expects this.
abbrev pub followed_by : Next → ℕ → Bool
followed_by next c = is_some (followed next.exponents next.expected next.top c)

-- The character may come, and no `/`, which comes only in strings and after the backslash there.
abbrev pub outside : (ℕ → Bool) → ℕ → Bool
outside may c = may c && not (may 47)

-- One of the ten digits may come.
abbrev pub any_digit : (ℕ → Bool) → Bool
any_digit may = may 48 || (may 49 || (may 50 || (may 51 || (may 52 || (may 53 || (may 54
    || (may 55 || (may 56 || may 57))))))))

-- A value: outside strings a `[` may come.
abbrev pub value_comes : (ℕ → Bool) → Bool
value_comes may = outside may 91

-- A key: outside strings a quote may come, and no `[`.
abbrev pub key_comes : (ℕ → Bool) → Bool
key_comes may = outside may 34 && not (may 91)

-- The letter of an escape: a `/` may come, and no `x`, which every string may have.
abbrev pub escape_comes : (ℕ → Bool) → Bool
escape_comes may = may 47 && not (may 120)

-- A hexadecimal digit of an escape: outside strings an `A` or a `D` may come.
abbrev pub hex_digit_comes : (ℕ → Bool) → Bool
hex_digit_comes may = outside may 65 || outside may 68

-- A digit of a number, where neither a value nor a character or an escape of a string may come.
abbrev pub digit_comes : (ℕ → Bool) → Bool
digit_comes may =
    any_digit may && not (may 91) && not (may 47) && not (hex_digit_comes may)

-- An exponent: an `e` and an `E` may come, and are no hexadecimal digits.
abbrev pub exponent_comes : (ℕ → Bool) → Bool
exponent_comes may = outside may 101 && may 69 && not (hex_digit_comes may)

-- The class if it may come, and otherwise nothing.
abbrev pub class_bit : Bool → ℕ → ℕ
class_bit comes class = cond comes class 0

-- The classes outside strings and numbers: a value, a key, `:`, `,`, `]` and `}`.
abbrev pub structure_bits : (ℕ → Bool) → ℕ
structure_bits may = class_bit (value_comes may) EXPECTED_VALUE
    + class_bit (key_comes may) EXPECTED_KEY
    + class_bit (outside may 58) EXPECTED_COLON
    + class_bit (outside may 44) EXPECTED_COMMA
    + class_bit (outside may 93) EXPECTED_ARRAY_END
    + class_bit (outside may 125) EXPECTED_OBJECT_END

-- The classes in strings: a character, an escape, a digit of one, and a second half of a pair.
abbrev pub string_bits : (ℕ → Bool) → ℕ
string_bits may = class_bit (may 120) EXPECTED_STRING
    + class_bit (escape_comes may) EXPECTED_ESCAPE
    + class_bit (hex_digit_comes may) EXPECTED_HEX_DIGIT
    + class_bit (outside may 92) EXPECTED_LOW_HALF

-- The classes in numbers: a digit, `+`, `.` and an exponent.
abbrev pub number_bits : (ℕ → Bool) → ℕ
number_bits may = class_bit (digit_comes may) EXPECTED_DIGIT
    + class_bit (outside may 43) EXPECTED_SIGN
    + class_bit (outside may 46) EXPECTED_POINT
    + class_bit (exponent_comes may) EXPECTED_EXPONENT

-- The letters of words: `a`, `e`, `l`, `r`, `s` and `u`; an `A` or `E` may be no word's.
abbrev pub letter_bits : (ℕ → Bool) → ℕ
letter_bits may = class_bit (outside may 97 && not (may 65)) EXPECTED_A
    + class_bit (outside may 101 && not (may 69)) EXPECTED_E
    + class_bit (outside may 108) EXPECTED_L
    + class_bit (outside may 114) EXPECTED_R
    + class_bit (outside may 115) EXPECTED_S
    + class_bit (outside may 117) EXPECTED_U

-- The sum of the classes that may come.
abbrev pub class_bits : Bool → (ℕ → Bool) → ℕ
class_bits ends may = class_bit ends EXPECTED_END + structure_bits may + string_bits may
    + number_bits may + letter_bits may
