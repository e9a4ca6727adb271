-- What may come next in a JSON text, character by character.
use Rattle.std.specs.Prelude.{ℕ, zero, suc, ◌+◌, ◌-◌, ◌*◌, ◌/◌, ◌^◌, min, Bool, true, false, cond}
use Rattle.std.specs.Prelude.{◌&&◌, ◌||◌, ◌==◌, nat_lt, nat_le, List, [], ◌∷◌, Option, Some, None}
use Rattle.std.specs.Prelude.{is_some, option_map, not}
use Rattle.std.specs.Char.{digit_value, is_digit, is_ascii_digit}
use Rattle.std.specs.Option.{option_or}
use Rattle.jsonb_value.specs.declared.parser.number.Exponents.{Exponents}
use Rattle.jsonb_value.specs.declared.parser.number.Exponents.TheVariants.{Forbidden, Allowed}
use Rattle.jsonb_value.specs.Json.Characters.{quote, comma, plus, minus, point, zero_digit, colon}
use Rattle.jsonb_value.specs.Json.Characters.{open_bracket, backslash, close_bracket, letter_u}
use Rattle.jsonb_value.specs.Json.Characters.{open_brace, close_brace, is_blank, is_exponent_mark}
use Rattle.jsonb_value.specs.Json.Piece.{escape_value, is_plain}
use Rattle.jsonb_value.specs.Json.Bind.{◌>>=◌}
use Rattle.json_fault.specs.declared.number.Part.{Part}
use Rattle.json_fault.specs.declared.number.Part.TheVariants.{Sign, Zero, Whole, Point, Fraction}
use Rattle.json_fault.specs.declared.number.Numeral.{Numeral}
use Rattle.json_fault.specs.declared.exponent.Exponent.{Exponent}
use Rattle.json_fault.specs.declared.string.Place.{Place}
use Rattle.json_fault.specs.declared.string.Place.TheVariants.{Inside, Escaped, Four, ThreeOfD}
use Rattle.json_fault.specs.declared.string.Place.TheVariants.{Three, Two, One, HighTwo, HighOne}
use Rattle.json_fault.specs.declared.string.Place.TheVariants.{Low, LowLetter, LowUnit, LowOfD}
use Rattle.json_fault.specs.declared.expected.Bracket.{Bracket}
use Rattle.json_fault.specs.declared.expected.Bracket.TheVariants.{Array, Object}
use Rattle.json_fault.specs.declared.expected.Word.{Word}
use Rattle.json_fault.specs.declared.expected.Word.TheVariants.{Rue, Ue, E, Alse, Lse, Se, Ull, Ll}
use Rattle.json_fault.specs.declared.expected.Word.TheVariants.{L}
use Rattle.json_fault.specs.declared.expected.Expected.{Expected}
use Rattle.json_fault.specs.declared.expected.Expected.TheVariants.{Value, FirstItem, FirstKey}
use Rattle.json_fault.specs.declared.expected.Expected.TheVariants.{Key, Colon, Rest, Letters}
use Rattle.json_fault.specs.declared.expected.Expected.TheVariants.{Digits, ExponentSign}
use Rattle.json_fault.specs.declared.expected.Expected.TheVariants.{ExponentDigits, Content, Name}
use Rattle.json_fault.specs.declared.fault.FaultReason.{FaultReason}
use Rattle.json_fault.specs.declared.fault.FaultReason.TheVariants.{Syntax, Number}
use Rattle.json_fault.specs.declared.expected.Change.{Change}
use Rattle.json_fault.specs.declared.expected.Change.TheVariants.{Keep, Open, Close}

-- ---- numbers

-- The least magnitude that the format does not hold.
abbrev pub limit : Bool → ℕ
limit true = 2 ^ 127 + 1
limit false = 2 ^ 127

-- There are fewer fraction digits than `below`, or an exponent can still lower the scale.
abbrev pub has_scale : Exponents → ℕ → ℕ → Bool
has_scale Forbidden scale below = nat_lt scale below
has_scale Allowed scale below = true

-- The format holds numbers of this sign, magnitude and scale, or with an exponent after them.
abbrev pub has_room : Exponents → Bool → ℕ → ℕ → Bool
has_room rule is_negative magnitude scale =
    nat_lt magnitude (limit is_negative) && has_scale rule scale 256

-- The same of the least number that begins so, where the part read last is given.
abbrev pub has_room_after : Exponents → Part → Bool → ℕ → ℕ → Bool
has_room_after rule Point is_negative magnitude scale =
    nat_lt (magnitude * 10) (limit is_negative) && has_scale rule scale 255
has_room_after rule _ is_negative magnitude scale = has_room rule is_negative magnitude scale

-- The format holds the number, or one that begins so.
abbrev pub is_viable : Exponents → Numeral → Bool
is_viable rule n = has_room_after rule n.part n.is_negative n.magnitude n.scale

-- The numeral, if it is viable.
abbrev pub viable_only : Exponents → Numeral → Option Numeral
viable_only rule n = cond (is_viable rule n) (Some n) None

-- The numeral after one more digit of this part, which adds `more` to the scale.
abbrev pub with_digit : Exponents → Numeral → Part → ℕ → ℕ → Option Numeral
with_digit rule n part more c = cond (is_digit c 10) (viable_only rule (record {
  is_negative = n.is_negative;
  part = part;
  magnitude = n.magnitude * 10 + digit_value c;
  scale = n.scale + more;
})) None

-- The numeral after a point.
abbrev pub with_point : Exponents → Numeral → ℕ → Option Numeral
with_point rule n c = cond (c == point) (viable_only rule (record n { part = Point })) None

-- The numeral whose first digit this is.
abbrev pub number_begun : Bool → ℕ → Option Numeral
number_begun is_negative c = cond (is_digit c 10) (Some (record {
  is_negative = is_negative;
  part = cond (c == zero_digit) Zero Whole;
  magnitude = digit_value c;
  scale = 0;
})) None

-- The numeral after one more character, where the part read last is given.
abbrev pub part_continued : Exponents → Part → Numeral → ℕ → Option Numeral
part_continued rule Sign n c = number_begun n.is_negative c
part_continued rule Zero n c = with_point rule n c
part_continued rule Whole n c = option_or (with_point rule n c) (with_digit rule n Whole 0 c)
part_continued rule Point n c = with_digit rule n Fraction 1 c
part_continued rule Fraction n c = with_digit rule n Fraction 1 c

-- The numeral after one more character, if the format holds a number that begins so.
abbrev pub number_continued : Exponents → Numeral → ℕ → Option Numeral
number_continued rule n c = part_continued rule n.part n c

-- A number may end with this part.
abbrev pub is_end : Part → Bool
is_end Zero = true
is_end Whole = true
is_end Fraction = true
is_end Sign = false
is_end Point = false

-- The number may end here.
abbrev pub is_complete : Numeral → Bool
is_complete n = is_end n.part && nat_lt n.scale 256

-- An exponent may follow the digits.
abbrev pub takes_exponent : Exponents → Numeral → Bool
takes_exponent Forbidden n = false
takes_exponent Allowed n = is_end n.part

-- A number of any size, with an exponent or without, may go on with the character after this part.
abbrev pub part_goes_on : Part → ℕ → Bool
part_goes_on Sign c = is_ascii_digit c
part_goes_on Zero c = (c == point) || is_exponent_mark c
part_goes_on Whole c = is_ascii_digit c || (c == point) || is_exponent_mark c
part_goes_on Point c = is_ascii_digit c
part_goes_on Fraction c = is_ascii_digit c || is_exponent_mark c

-- ---- exponents

-- The count of decimal digits after the first, or `most` if there are more.
abbrev pub digits_after_first : (most : ℕ) → ℕ → ℕ
digits_after_first zero n = 0
digits_after_first (suc most) n = cond (nat_lt n 10) 0 (suc (digits_after_first most (n / 10)))

-- The exponent of the greatest power of ten that is at most the number; 0 for 0.
unfoldable pub log10 : ℕ → ℕ
log10 n = digits_after_first n n

-- How many zeros the digits have room for; `None` if for all, as the number is 0.
abbrev pub zeros : Bool → ℕ → Option ℕ
zeros is_negative magnitude =
    cond (magnitude == 0) None (Some (log10 ((limit is_negative - 1) / magnitude)))

-- An exponent of which no digit was read, with the least and the greatest that it may become.
abbrev pub without_digits : ℕ → Option ℕ → Exponent
without_digits least greatest = record {
  has_digits = false;
  value = 0;
  least = least;
  greatest = greatest;
}

-- The exponent after its mark, if it has no minus.
abbrev pub raising : Numeral → Exponent
raising n = without_digits (n.scale - 255)
    (option_map (λ count. n.scale + count) (zeros n.is_negative n.magnitude))

-- The exponent after its mark and a minus.
abbrev pub lowering : Numeral → Option Exponent
lowering n = cond (nat_lt n.scale 256) (Some (without_digits 0 (Some (255 - n.scale)))) None

-- Some number from `least` to `greatest`, if there is any, begins with the digits of `value`.
abbrev pub reaches : ℕ → ℕ → ℕ → Bool
reaches value least greatest = (value == 0)
    || (nat_le value greatest && nat_le (least / 10 ^ log10 (greatest / value)) value)

-- The exponent with this value and a digit, where its greatest is given. Without a greatest all
-- values from the least on have the same effect.
abbrev pub with_value : Option ℕ → Exponent → ℕ → Option Exponent
with_value None x value = Some (record x { has_digits = true; value = min value x.least })
with_value (Some greatest) x value = cond (reaches value x.least greatest)
    (Some (record x { has_digits = true; value = value })) None

-- The exponent after one more digit, if the format holds a number that begins so.
abbrev pub exponent_continued : Exponent → ℕ → Option Exponent
exponent_continued x c = cond (is_digit c 10)
    (with_value x.greatest x (x.value * 10 + digit_value c)) None

-- The exponent after the character that follows its mark.
abbrev pub exponent_begun : Numeral → ℕ → Option Exponent
exponent_begun n c = cond (c == plus) (Some (raising n))
    (cond (c == minus) (lowering n) (exponent_continued (raising n) c))

-- The value is at most the greatest.
abbrev pub at_most : ℕ → Option ℕ → Bool
at_most value None = true
at_most value (Some greatest) = nat_le value greatest

-- The value is in the range.
abbrev pub is_between : ℕ → ℕ → Option ℕ → Bool
is_between value least greatest = nat_le least value && at_most value greatest

-- The exponent may end here.
abbrev pub is_final : Exponent → Bool
is_final x = x.has_digits && is_between x.value x.least x.greatest

-- ---- strings

-- The place after an unescaped character or a backslash.
abbrev pub after_inside : ℕ → Option Place
after_inside c = cond (c == backslash) (Some Escaped) (cond (is_plain c) (Some Inside) None)

-- The place after the letter of an escape.
abbrev pub after_backslash : ℕ → Option Place
after_backslash c =
    cond (c == letter_u) (Some Four) (cond (is_some (escape_value c)) (Some Inside) None)

-- The place after a digit, if it is at least `low` and less than `high`.
abbrev pub after_digit : ℕ → ℕ → ℕ → Place → Option Place
after_digit c low high place =
    cond (nat_le low (digit_value c) && nat_lt (digit_value c) high) (Some place) None

-- `place`, if the character is `mark`.
abbrev pub past_mark : ℕ → ℕ → Place → Option Place
past_mark c mark place = cond (c == mark) (Some place) None

-- The place after the first digit of a unit.
abbrev pub after_first_digit : ℕ → Option Place
after_first_digit c = option_or (after_digit c 13 14 ThreeOfD) (after_digit c 0 16 Three)

-- The place after the second digit of a unit that begins with `d`.
abbrev pub after_digit_of_d : ℕ → Option Place
after_digit_of_d c = option_or (after_digit c 0 8 Two) (after_digit c 8 12 HighTwo)

-- The place in the string after one more character that is not its closing quote.
abbrev pub string_continued : Place → ℕ → Option Place
string_continued Inside c = after_inside c
string_continued Escaped c = after_backslash c
string_continued Four c = after_first_digit c
string_continued ThreeOfD c = after_digit_of_d c
string_continued Three c = after_digit c 0 16 Two
string_continued Two c = after_digit c 0 16 One
string_continued One c = after_digit c 0 16 Inside
string_continued HighTwo c = after_digit c 0 16 HighOne
string_continued HighOne c = after_digit c 0 16 Low
string_continued Low c = past_mark c backslash LowLetter
string_continued LowLetter c = past_mark c letter_u LowUnit
string_continued LowUnit c = after_digit c 13 14 LowOfD
string_continued LowOfD c = after_digit c 12 16 Two

-- A quote here closes the string.
abbrev pub is_inside : Place → Bool
is_inside Inside = true
is_inside _ = false

-- The character is the closing quote.
abbrev pub is_closed : Place → ℕ → Bool
is_closed place c = is_inside place && (c == quote)

-- ---- texts

-- What is expected after a character, and what happens to the open brackets.
abbrev pub Move : Type 0
Move = Expected × Change

-- The brackets stay as they are.
abbrev pub keep : Expected → Option Move
keep next = Some (next, Keep)

-- The beginning of a number.
abbrev pub number_first : ℕ → Option Move
number_first c = cond (c == minus) (keep (Digits (record {
  is_negative = true;
  part = Sign;
  magnitude = 0;
  scale = 0;
}))) (number_begun false c >>= λ n. keep (Digits n))

-- The beginning of a value.
abbrev pub value_begun : ℕ → Option Move
value_begun c =
    cond (c == quote) (keep (Content Inside))
    (cond (c == open_bracket) (Some (FirstItem, Open Array))
    (cond (c == open_brace) (Some (FirstKey, Open Object))
    (cond (c == 116) (keep (Letters Rue))
    (cond (c == 102) (keep (Letters Alse))
    (cond (c == 110) (keep (Letters Ull)) (number_first c))))))

-- `next`, if the character is `mark`.
abbrev pub mark_begun : ℕ → ℕ → Expected → Option Move
mark_begun c mark next = cond (c == mark) (keep next) None

-- The end of a container, if the character is `mark`, or else `other`.
abbrev pub closed_or : ℕ → ℕ → Option Move → Option Move
closed_or c mark other = cond (c == mark) (Some (Rest, Close)) other

-- What follows a value, other than white space.
abbrev pub rest_begun : Option Bracket → ℕ → Option Move
rest_begun None c = None
rest_begun (Some Array) c = closed_or c close_bracket (mark_begun c comma Value)
rest_begun (Some Object) c = closed_or c close_brace (mark_begun c comma Key)

-- What follows a value.
abbrev pub rest_followed : Option Bracket → ℕ → Option Move
rest_followed top c = cond (is_blank c) (keep Rest) (rest_begun top c)

-- What follows a letter of a word.
abbrev pub word_continued : Word → ℕ → Option Move
word_continued Rue c = mark_begun c 114 (Letters Ue)
word_continued Ue c = mark_begun c 117 (Letters E)
word_continued E c = mark_begun c 101 Rest
word_continued Alse c = mark_begun c 97 (Letters Lse)
word_continued Lse c = mark_begun c 108 (Letters Se)
word_continued Se c = mark_begun c 115 (Letters E)
word_continued Ull c = mark_begun c 117 (Letters Ll)
word_continued Ll c = mark_begun c 108 (Letters L)
word_continued L c = mark_begun c 108 Rest

-- The mark of an exponent, if one may follow.
abbrev pub mark_after : Exponents → Numeral → ℕ → Option Move
mark_after rule n c =
    cond (takes_exponent rule n && is_exponent_mark c) (keep (ExponentSign n)) None

-- What follows the end of a number, if it may end here.
abbrev pub number_ended : Bool → Option Bracket → ℕ → Option Move
number_ended ends top c = cond ends (rest_followed top c) None

-- What follows a character of a number, or after its end.
abbrev pub in_number : Exponents → Numeral → Option Bracket → ℕ → Option Move
in_number rule n top c = option_or (number_continued rule n c >>= λ m. keep (Digits m))
    (option_or (mark_after rule n c) (number_ended (is_complete n) top c))

-- What follows the mark of an exponent.
abbrev pub mark_followed : Numeral → ℕ → Option Move
mark_followed n c = exponent_begun n c >>= λ x. keep (ExponentDigits x)

-- What follows the sign or a digit of an exponent.
abbrev pub in_exponent : Exponent → Option Bracket → ℕ → Option Move
in_exponent x top c = option_or (exponent_continued x c >>= λ y. keep (ExponentDigits y))
    (number_ended (is_final x) top c)

-- What follows a character of a string that is a value.
abbrev pub in_content : Place → ℕ → Option Move
in_content place c =
    cond (is_closed place c) (keep Rest) (string_continued place c >>= λ p. keep (Content p))

-- What follows a character of a key.
abbrev pub in_name : Place → ℕ → Option Move
in_name place c =
    cond (is_closed place c) (keep Colon) (string_continued place c >>= λ p. keep (Name p))

-- White space may come next and changes nothing.
abbrev pub skips : Expected → Bool
skips Value = true
skips FirstItem = true
skips FirstKey = true
skips Key = true
skips Colon = true
skips Rest = true
skips _ = false

-- What follows this character, which is not white space between tokens.
abbrev pub token_begun : Exponents → Expected → Option Bracket → ℕ → Option Move
token_begun rule Value top c = value_begun c
token_begun rule FirstItem top c = closed_or c close_bracket (value_begun c)
token_begun rule FirstKey top c = closed_or c close_brace (mark_begun c quote (Name Inside))
token_begun rule Key top c = mark_begun c quote (Name Inside)
token_begun rule Colon top c = mark_begun c colon Value
token_begun rule Rest top c = rest_begun top c
token_begun rule (Letters word) top c = word_continued word c
token_begun rule (Digits n) top c = in_number rule n top c
token_begun rule (ExponentSign n) top c = mark_followed n c
token_begun rule (ExponentDigits x) top c = in_exponent x top c
token_begun rule (Content place) top c = in_content place c
token_begun rule (Name place) top c = in_name place c

-- What is expected after this character, and what happens to the open brackets, if the character
-- may come; `top` is the innermost open bracket.
abbrev pub followed : Exponents → Expected → Option Bracket → ℕ → Option Move
followed rule e top c = cond (skips e && is_blank c) (keep e) (token_begun rule e top c)

-- A number is expected to go on, which may not end here.
abbrev pub is_unfinished : Expected → Bool
is_unfinished (Digits n) = not (is_complete n)
is_unfinished (ExponentSign n) = true
is_unfinished (ExponentDigits x) = not (is_final x)
is_unfinished _ = false

-- A number of any size that is expected to go on goes on with this character.
abbrev pub goes_on : Expected → ℕ → Bool
goes_on (Digits n) c = part_goes_on n.part c
goes_on (ExponentDigits x) c = is_ascii_digit c
goes_on _ c = false

-- A number is expected to go on, which may not end here or goes on with the next character.
abbrev pub stops_in_number : Expected → Option ℕ → Bool
stops_in_number e None = is_unfinished e
stops_in_number e (Some c) = is_unfinished e || goes_on e c

-- Why the scan stopped.
abbrev pub reason_at : Expected → Option ℕ → FaultReason
reason_at e next = cond (stops_in_number e next) Number Syntax

-- The innermost open bracket.
abbrev pub innermost_bracket : List Bracket → Option Bracket
innermost_bracket [] = None
innermost_bracket (b ∷ bs) = Some b

-- The brackets without the innermost.
abbrev pub without_innermost : List Bracket → List Bracket
without_innermost [] = []
without_innermost (b ∷ bs) = bs

-- The open brackets after a change, the innermost first.
abbrev pub changed : Change → List Bracket → List Bracket
changed Keep bs = bs
changed (Open b) bs = b ∷ bs
changed Close bs = without_innermost bs

-- How many fraction digits were counted in the number that is being read.
abbrev pub scale_of : Expected → ℕ
scale_of (Digits n) = n.scale
scale_of _ = 0
