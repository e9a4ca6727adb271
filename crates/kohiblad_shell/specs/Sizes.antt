-- Sizes of memory, as they are written.
use Rattle.std.specs.Prelude.{◌≡◌, ◌⊎◌, ℕ, List, [], ◌∷◌, ◌++◌, Option, None, Some, codes, length}
use Rattle.std.specs.Prelude.{◌*◌, ◌+◌, ◌-◌, ◌/◌, ◌<◌, ◌^◌, if◌then◌else◌}
use Rattle.std.specs.Char.{is_ascii_digit}

-- The number that digits spell after a number, or none if they are no digits.
abbrev pub digits_value : ℕ → List ℕ → Option ℕ
digits_value n [] = Some n
digits_value n (b ∷ bs) = if is_ascii_digit b then digits_value (n * 10 + (b - 48)) bs else None

-- The letter of a unit, large or small, and how many bytes this says: a power of 1,024.
pub data IsLetter : ℕ → ℕ → Type 0 where
  large_k : IsLetter 75 (2 ^ 10)
  small_k : IsLetter 107 (2 ^ 10)
  large_m : IsLetter 77 (2 ^ 20)
  small_m : IsLetter 109 (2 ^ 20)
  large_g : IsLetter 71 (2 ^ 30)
  small_g : IsLetter 103 (2 ^ 30)
  large_t : IsLetter 84 (2 ^ 40)
  small_t : IsLetter 116 (2 ^ 40)

-- The text is a number and the letter of a unit.
pub record EndsInLetter (text number : List ℕ) (factor : ℕ) : Type 0 where
  pub letter : ℕ
  pub parts : text ≡ number ++ letter ∷ []
  pub means : IsLetter letter factor

-- The text is a number and a letter, or a number of bytes.
abbrev pub IsCount : List ℕ → List ℕ → ℕ → Type 0
IsCount text number factor = EndsInLetter text number factor
    ⊎ ((number ≡ text) × (factor ≡ 1))

-- The text is a number in its unit, after which a `B` adds nothing, nor an `iB` after a letter.
abbrev pub HasUnit : List ℕ → List ℕ → ℕ → Type 0
HasUnit text number factor = IsCount text number factor
    ⊎ (((count : List ℕ) × ((text ≡ count ++ codes "B") × IsCount count number factor))
    ⊎ ((count : List ℕ) × ((text ≡ count ++ codes "iB") × EndsInLetter count number factor)))

-- The number of these digits, of which there are some, times a factor.
pub record IsWhole (digits : List ℕ) (factor size : ℕ) : Type 0 where
  pub number : ℕ
  pub some : 0 < length digits
  pub spells : digits_value 0 digits ≡ Some number
  pub is : size ≡ number * factor

-- The number of the digits before a point and of those after it, of which there are some of both,
-- times a factor, without the part of a byte.
pub record IsDecimal (whole fraction : List ℕ) (factor size : ℕ) : Type 0 where
  pub number : ℕ
  pub some_whole : 0 < length whole
  pub some_fraction : 0 < length fraction
  pub spells : digits_value 0 (whole ++ fraction) ≡ Some number
  pub is : size ≡ number * factor / 10 ^ length fraction

-- The text of a number says so many bytes in units of a factor: it has no point, or one.
abbrev pub IsScaled : List ℕ → ℕ → ℕ → Type 0
IsScaled number factor size = IsWhole number factor size
    ⊎ ((whole : List ℕ) × ((fraction : List ℕ) × ((number ≡ whole ++ 46 ∷ fraction)
    × IsDecimal whole fraction factor size)))

-- The text says a size: a number, in its unit.
pub record IsSize (text : List ℕ) (size : ℕ) : Type 0 where
  pub number : List ℕ
  pub factor : ℕ
  pub unit : HasUnit text number factor
  pub scaled : IsScaled number factor size

-- The size of memory that a text says, or 1 GiB if there is none.
abbrev pub IsMemory : Option (List ℕ) → ℕ → Type 0
IsMemory None size = size ≡ 2 ^ 30
IsMemory (Some text) size = IsSize text size
