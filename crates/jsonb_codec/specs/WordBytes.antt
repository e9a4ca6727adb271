-- Words of 32 bits, most significant byte first, and reading them from bytes.
use Rattle.std.specs.Prelude.{ℕ, ◌+◌, ◌-◌, ◌%◌, ◌^◌, ◌==◌, ◌||◌, nat_le, if◌then◌else◌, List}
use Rattle.std.specs.Prelude.{length, take, drop, Result, Ok, Err}
use Rattle.std.specs.Int.{w32, to_be_bytes, from_be_bytes}
use Rattle.jsonb_value.specs.declared.error.Error.{Error}
use Rattle.jsonb_value.specs.declared.error.Error.TheVariants.{InvalidEOF, InvalidJsonb}
use Rattle.jsonb_codec.specs.declared.constants.TheConstants.{ARRAY_CONTAINER_TAG}
use Rattle.jsonb_codec.specs.declared.constants.TheConstants.{OBJECT_CONTAINER_TAG}
use Rattle.jsonb_codec.specs.declared.constants.TheConstants.{SCALAR_CONTAINER_TAG}

-- The four bytes of a word.
unfoldable pub word : ℕ → List ℕ
word k = to_be_bytes w32 k

-- The word at `index`, or `InvalidEOF` if the bytes end before it does.
abbrev pub word_at : List ℕ → ℕ → Result ℕ Error
word_at bytes index = if nat_le (index + 4) (length bytes)
    then Ok (from_be_bytes w32 (take 4 (drop index bytes))) else Err InvalidEOF

-- The count in a header word: its lower 29 bits.
abbrev pub header_count : ℕ → ℕ
header_count k = k % 2 ^ 29

-- The kind in a header word: its upper three bits.
abbrev pub header_type : ℕ → ℕ
header_type k = k - k % 2 ^ 29

-- The kind and the count of a header word, if it is of one of the three kinds.
abbrev pub header_of : ℕ → Result (ℕ × ℕ) Error
header_of k =
    if (header_type k == ARRAY_CONTAINER_TAG) || (header_type k == OBJECT_CONTAINER_TAG) ||
    (header_type k == SCALAR_CONTAINER_TAG)
    then Ok (header_type k, header_count k) else Err InvalidJsonb

-- The header of a word that was read.
abbrev pub header_in : Result ℕ Error → Result (ℕ × ℕ) Error
header_in (Ok k) = header_of k
header_in (Err e) = Err e

-- The header at `index`.
abbrev pub header_at : List ℕ → ℕ → Result (ℕ × ℕ) Error
header_at bytes index = header_in (word_at bytes index)
