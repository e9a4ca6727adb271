-- The stored form of a row.
use Rattle.std.specs.Prelude.{◌≡◌, ℕ, List, ◌++◌, length}
use Rattle.std.specs.Int.{w64, to_be_bytes}

-- A row in stored form: its length as a big-endian integer of eight bytes, then its bytes.
abbrev pub row_bytes : List ℕ → List ℕ
row_bytes row = to_be_bytes w64 (length row) ++ row

-- The bytes begin with these.
abbrev pub BeginsWith : List ℕ → List ℕ → Type 0
BeginsWith bytes part = (rest : List ℕ) × (part ++ rest ≡ bytes)
