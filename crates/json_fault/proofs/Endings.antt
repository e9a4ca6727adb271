-- What completes a JSON text, for all that may be expected next.
use Rattle.std.proofs.Common.{◌≡◌, ℕ, ◌+◌, ◌<◌, ◌≤◌, ◌⊎◌, Bool, true, false, List, [], ◌∷◌}
use Rattle.std.proofs.Common.{◌++◌, length, Option, Some}
use Rattle.std.specs.Prelude.{◌||◌, codes}
use Rattle.std.specs.Char.{digit_value}
use Rattle.std.specs.Str.Parse.{digits_value, digits_value_after}
use Rattle.jsonb_value.specs.declared.parser.number.Exponents.{Exponents}
use Rattle.jsonb_value.specs.declared.parser.number.Exponents.TheVariants.{Forbidden, Allowed}
use Rattle.jsonb_value.specs.Json.Characters.{quote, backslash, letter_u, colon, close_bracket}
use Rattle.jsonb_value.specs.Json.Characters.{close_brace, all_blank, all_digits, is_exponent_mark}
use Rattle.jsonb_value.specs.Json.Numeral as json
use Rattle.jsonb_value.specs.Json.Numeral.{is_whole, fraction_text}
use Rattle.jsonb_value.specs.Json.Piece.{Piece, escape_value, pieces_text, pieces_meaning}
use Rattle.jsonb_value.specs.Json.Syntax.{meaning, items_meaning, members_meaning, syntax_text}
use Rattle.jsonb_value.specs.Json.Syntax.{items_text, members_text}
use Rattle.json_fault.specs.declared.number.Part.{Part}
use Rattle.json_fault.specs.declared.number.Part.TheVariants.{Sign, Zero, Whole, Point, Fraction}
use Rattle.json_fault.specs.declared.exponent.Exponent.{Exponent}
use Rattle.json_fault.specs.declared.string.Place.{Place}
use Rattle.json_fault.specs.declared.string.Place.TheVariants.{Inside, Escaped, Four, ThreeOfD}
use Rattle.json_fault.specs.declared.string.Place.TheVariants.{Three, Two, One, HighTwo, HighOne}
use Rattle.json_fault.specs.declared.string.Place.TheVariants.{Low, LowLetter, LowUnit, LowOfD}
use Rattle.json_fault.specs.declared.expected.Bracket.{Bracket}
use Rattle.json_fault.specs.declared.expected.Bracket.TheVariants.{Array, Object}
use Rattle.json_fault.specs.declared.expected.Word.{Word}
use Rattle.json_fault.specs.declared.expected.Word.TheVariants.{Rue, Ue, E, Alse, Lse, Se, Ull, Ll}
use Rattle.json_fault.specs.declared.expected.Word.TheVariants.{L}
use Rattle.json_fault.specs.declared.expected.Expected.{Expected}
use Rattle.json_fault.specs.declared.expected.Expected.TheVariants.{Value, FirstItem, FirstKey}
use Rattle.json_fault.specs.declared.expected.Expected.TheVariants.{Key, Colon, Rest, Letters}
use Rattle.json_fault.specs.declared.expected.Expected.TheVariants.{Digits, ExponentSign}
use Rattle.json_fault.specs.declared.expected.Expected.TheVariants.{ExponentDigits, Content, Name}
use Rattle.json_fault.specs.Scan.{has_room, is_between, without_innermost}
use Rattle.json_fault.proofs.Held.{IsHeldWith}

-- white space, this character, and then what P holds of
pub record After (k : ℕ) (P : List ℕ → Type 0) (w : List ℕ) : Type 0 where
  pub blank : List ℕ
  pub is_blank : all_blank blank ≡ true
  pub rest : List ℕ
  pub is_spelled : w ≡ blank ++ k ∷ rest
  pub ends : P rest

-- white space, syntax with a meaning, and then what P holds of; likewise below
pub record SyntaxEnd {S M : Type 0} (spelling : S → List ℕ) (meaning_of : S → Option M)
    (P : List ℕ → Type 0) (w : List ℕ) : Type 0 where
  pub blank : List ℕ
  pub is_blank : all_blank blank ≡ true
  pub syntax : S
  pub value : M
  pub is_meant : meaning_of syntax ≡ Some value
  pub rest : List ℕ
  pub is_spelled : w ≡ blank ++ (spelling syntax ++ rest)
  pub ends : P rest

-- a value
abbrev pub ValueEnd : Exponents → (List ℕ → Type 0) → List ℕ → Type 0
ValueEnd rule P = SyntaxEnd syntax_text (meaning rule) P

-- the rest of an array after an item
abbrev pub ItemsEnd : Exponents → (List ℕ → Type 0) → List ℕ → Type 0
ItemsEnd rule P = SyntaxEnd items_text (items_meaning rule) P

-- the rest of an object after a member
abbrev pub MembersEnd : Exponents → (List ℕ → Type 0) → List ℕ → Type 0
MembersEnd rule P = SyntaxEnd members_text (members_meaning rule) P

-- the rest of a string
pub record StringEnd (P : List ℕ → Type 0) (w : List ℕ) : Type 0 where
  pub pieces : List Piece
  pub bytes : List ℕ
  pub is_meant : pieces_meaning pieces ≡ Some bytes
  pub rest : List ℕ
  pub is_spelled : w ≡ pieces_text pieces ++ quote ∷ rest
  pub ends : P rest

-- a colon and a value
abbrev pub ColonEnd : Exponents → (List ℕ → Type 0) → List ℕ → Type 0
ColonEnd rule P = After colon (ValueEnd rule P)

-- a key, a colon and a value
abbrev pub KeyEnd : Exponents → (List ℕ → Type 0) → List ℕ → Type 0
KeyEnd rule P = After quote (StringEnd (ColonEnd rule P))

-- what closes these brackets, the first first, and only white space after them
unfoldable pub Ends : Exponents → List Bracket → List ℕ → Type 0
Ends rule [] w = all_blank w ≡ true
Ends rule (Array ∷ bs) w = ItemsEnd rule (Ends rule bs) w
Ends rule (Object ∷ bs) w = MembersEnd rule (Ends rule bs) w

-- ---- exponents

-- There is a digit.
abbrev pub is_filled : List ℕ → Bool
is_filled [] = false
is_filled (d ∷ ds) = true

-- the rest of an exponent's digits, with which it is in its range, and then what P holds of
pub record ExponentEnd (x : Exponent) (P : List ℕ → Type 0) (w : List ℕ) : Type 0 where
  pub digits : List ℕ
  pub are_digits : all_digits digits ≡ true
  pub is_some : (x.has_digits || is_filled digits) ≡ true
  pub is_held : is_between (digits_value_after 10 x.value digits) x.least x.greatest ≡ true
  pub rest : List ℕ
  pub is_spelled : w ≡ digits ++ rest
  pub ends : P rest

-- an exponent after its mark, with which the format holds the number
pub record MarkEnd (b : Bool) (m k : ℕ) (P : List ℕ → Type 0) (w : List ℕ) : Type 0 where
  pub sign : json.Sign
  pub digits : List ℕ
  pub are_digits : json.are_digits digits ≡ true
  pub is_held : IsHeldWith b m k (json.is_minus sign) (digits_value 10 digits)
  pub rest : List ℕ
  pub is_spelled : w ≡ json.exponent_sign_text sign ++ (digits ++ rest)
  pub ends : P rest

-- an exponent
pub record MarkedEnd (rule : Exponents) (b : Bool) (P : List ℕ → Type 0) (m k : ℕ) (w : List ℕ)
    : Type 0 where
  pub is_allowed : rule ≡ Allowed
  pub mark : ℕ
  pub is_mark : is_exponent_mark mark ≡ true
  pub rest : List ℕ
  pub is_spelled : w ≡ mark ∷ rest
  pub ends : MarkEnd b m k P rest

-- what follows the digits of a number of this sign, magnitude and scale: an exponent, or none
abbrev pub RestEnd : Exponents → Bool → (List ℕ → Type 0) → ℕ → ℕ → List ℕ → Type 0
RestEnd rule b P m k w =
    ((has_room Forbidden b m k ≡ true) × P w) ⊎ MarkedEnd rule b P m k w

-- ---- numbers

-- digits and a fraction, which follow the number m of this scale, and then what R holds of
pub record TailEnd (m k : ℕ) (R : ℕ → ℕ → List ℕ → Type 0) (w : List ℕ) : Type 0 where
  pub digits : List ℕ
  pub fraction : List ℕ
  pub are_digits : all_digits digits ≡ true
  pub is_fraction : all_digits fraction ≡ true
  pub rest : List ℕ
  pub is_spelled : w ≡ digits ++ (fraction_text fraction ++ rest)
  pub ends : R (digits_value_after 10 m (digits ++ fraction)) (k + length fraction) rest

-- a fraction alone
pub record ZeroEnd (m k : ℕ) (R : ℕ → ℕ → List ℕ → Type 0) (w : List ℕ) : Type 0 where
  pub fraction : List ℕ
  pub is_fraction : all_digits fraction ≡ true
  pub rest : List ℕ
  pub is_spelled : w ≡ fraction_text fraction ++ rest
  pub ends : R (digits_value_after 10 m fraction) (k + length fraction) rest

-- digits alone
pub record DigitsEnd (m k : ℕ) (R : ℕ → ℕ → List ℕ → Type 0) (w : List ℕ) : Type 0 where
  pub digits : List ℕ
  pub are_digits : all_digits digits ≡ true
  pub rest : List ℕ
  pub is_spelled : w ≡ digits ++ rest
  pub ends : R (digits_value_after 10 m digits) (k + length digits) rest

-- digits alone, at least one
pub record PointEnd (m k : ℕ) (R : ℕ → ℕ → List ℕ → Type 0) (w : List ℕ) : Type 0 where
  pub first : ℕ
  pub digits : List ℕ
  pub are_digits : all_digits (first ∷ digits) ≡ true
  pub rest : List ℕ
  pub is_spelled : w ≡ first ∷ (digits ++ rest)
  pub ends : R (digits_value_after 10 m (first ∷ digits)) (k + length (first ∷ digits)) rest

-- a number without its minus
pub record SignEnd (R : ℕ → ℕ → List ℕ → Type 0) (w : List ℕ) : Type 0 where
  pub whole : List ℕ
  pub fraction : List ℕ
  pub is_whole_part : is_whole whole ≡ true
  pub is_fraction : all_digits fraction ≡ true
  pub rest : List ℕ
  pub is_spelled : w ≡ whole ++ (fraction_text fraction ++ rest)
  pub ends : R (digits_value_after 10 0 (whole ++ fraction)) (length fraction) rest

-- the rest of a number's digits
abbrev pub NumberEnd : Part → ℕ → ℕ → (ℕ → ℕ → List ℕ → Type 0) → List ℕ → Type 0
NumberEnd Sign m k R w = SignEnd R w
NumberEnd Zero m k R w = ZeroEnd m k R w
NumberEnd Whole m k R w = TailEnd m k R w
NumberEnd Point m k R w = PointEnd m k R w
NumberEnd Fraction m k R w = DigitsEnd m k R w

-- ---- strings

-- a digit from `low` on and below `high`
pub record Digit (low high : ℕ) (P : List ℕ → Type 0) (w : List ℕ) : Type 0 where
  pub digit : ℕ
  pub is_low : low ≤ digit_value digit
  pub is_high : digit_value digit < high
  pub rest : List ℕ
  pub is_spelled : w ≡ digit ∷ rest
  pub ends : P rest

-- this character
pub record Mark (k : ℕ) (P : List ℕ → Type 0) (w : List ℕ) : Type 0 where
  pub rest : List ℕ
  pub is_spelled : w ≡ k ∷ rest
  pub ends : P rest

-- the letter of an escape
pub record Letter (P : List ℕ → Type 0) (w : List ℕ) : Type 0 where
  pub letter : ℕ
  pub character : ℕ
  pub is_meant : escape_value letter ≡ Some character
  pub rest : List ℕ
  pub is_spelled : w ≡ letter ∷ rest
  pub ends : P rest

abbrev pub OneEnd : (List ℕ → Type 0) → List ℕ → Type 0
OneEnd Q = Digit 0 16 Q

abbrev pub TwoEnd : (List ℕ → Type 0) → List ℕ → Type 0
TwoEnd Q = Digit 0 16 (OneEnd Q)

abbrev pub ThreeEnd : (List ℕ → Type 0) → List ℕ → Type 0
ThreeEnd Q = Digit 0 16 (TwoEnd Q)

abbrev pub LowOfDEnd : (List ℕ → Type 0) → List ℕ → Type 0
LowOfDEnd Q = Digit 12 16 (TwoEnd Q)

abbrev pub LowUnitEnd : (List ℕ → Type 0) → List ℕ → Type 0
LowUnitEnd Q = Digit 13 14 (LowOfDEnd Q)

abbrev pub LowLetterEnd : (List ℕ → Type 0) → List ℕ → Type 0
LowLetterEnd Q = Mark letter_u (LowUnitEnd Q)

abbrev pub LowEnd : (List ℕ → Type 0) → List ℕ → Type 0
LowEnd Q = Mark backslash (LowLetterEnd Q)

abbrev pub HighOneEnd : (List ℕ → Type 0) → List ℕ → Type 0
HighOneEnd Q = Digit 0 16 (LowEnd Q)

abbrev pub HighTwoEnd : (List ℕ → Type 0) → List ℕ → Type 0
HighTwoEnd Q = Digit 0 16 (HighOneEnd Q)

abbrev pub ThreeOfDEnd : (List ℕ → Type 0) → List ℕ → Type 0
ThreeOfDEnd Q w = Digit 0 8 (TwoEnd Q) w ⊎ Digit 8 12 (HighTwoEnd Q) w

abbrev pub FourEnd : (List ℕ → Type 0) → List ℕ → Type 0
FourEnd Q w = Digit 13 14 (ThreeOfDEnd Q) w
    ⊎ (Digit 0 13 (ThreeEnd Q) w ⊎ Digit 14 16 (ThreeEnd Q) w)

abbrev pub EscapedEnd : (List ℕ → Type 0) → List ℕ → Type 0
EscapedEnd Q w = Letter Q w ⊎ Mark letter_u (FourEnd Q) w

-- the rest of a string, then what P holds of
abbrev pub PlaceEnd : Place → (List ℕ → Type 0) → List ℕ → Type 0
PlaceEnd Inside P = StringEnd P
PlaceEnd Escaped P = EscapedEnd (StringEnd P)
PlaceEnd Four P = FourEnd (StringEnd P)
PlaceEnd ThreeOfD P = ThreeOfDEnd (StringEnd P)
PlaceEnd Three P = ThreeEnd (StringEnd P)
PlaceEnd Two P = TwoEnd (StringEnd P)
PlaceEnd One P = OneEnd (StringEnd P)
PlaceEnd HighTwo P = HighTwoEnd (StringEnd P)
PlaceEnd HighOne P = HighOneEnd (StringEnd P)
PlaceEnd Low P = LowEnd (StringEnd P)
PlaceEnd LowLetter P = LowLetterEnd (StringEnd P)
PlaceEnd LowUnit P = LowUnitEnd (StringEnd P)
PlaceEnd LowOfD P = LowOfDEnd (StringEnd P)

-- ---- texts

-- the letters of a word that are missing
abbrev pub letters : Word → List ℕ
letters Rue = codes "rue"
letters Ue = codes "ue"
letters E = codes "e"
letters Alse = codes "alse"
letters Lse = codes "lse"
letters Se = codes "se"
letters Ull = codes "ull"
letters Ll = codes "ll"
letters L = codes "l"

-- these characters
pub record Literal (ks : List ℕ) (P : List ℕ → Type 0) (w : List ℕ) : Type 0 where
  pub rest : List ℕ
  pub is_spelled : w ≡ ks ++ rest
  pub ends : P rest

-- what completes a JSON text
abbrev pub Completes : Exponents → Expected → List Bracket → List ℕ → Type 0
Completes rule Value bs w = ValueEnd rule (Ends rule bs) w
Completes rule FirstItem bs w =
    After close_bracket (Ends rule (without_innermost bs)) w ⊎ ValueEnd rule (Ends rule bs) w
Completes rule FirstKey bs w =
    After close_brace (Ends rule (without_innermost bs)) w ⊎ KeyEnd rule (Ends rule bs) w
Completes rule Key bs w = KeyEnd rule (Ends rule bs) w
Completes rule Colon bs w = ColonEnd rule (Ends rule bs) w
Completes rule Rest bs w = Ends rule bs w
Completes rule (Letters word) bs w = Literal (letters word) (Ends rule bs) w
Completes rule (Digits n) bs w =
    NumberEnd n.part n.magnitude n.scale (RestEnd rule n.is_negative (Ends rule bs)) w
Completes rule (ExponentSign n) bs w = MarkEnd n.is_negative n.magnitude n.scale (Ends rule bs) w
Completes rule (ExponentDigits x) bs w = ExponentEnd x (Ends rule bs) w
Completes rule (Content place) bs w = PlaceEnd place (Ends rule bs) w
Completes rule (Name place) bs w = PlaceEnd place (ColonEnd rule (Ends rule bs)) w
