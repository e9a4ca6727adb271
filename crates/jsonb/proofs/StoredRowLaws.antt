-- How long a stored row is.
use Rattle.std.proofs.Common.{◌≡◌, ℕ, ◌+◌, List, length}
use Rattle.std.specs.Int.{w64, to_be_bytes}
use Rattle.std.proofs.lemmas.List.{length-append}
use Rattle.jsonb.specs.StoredRow.{row_bytes}

pub length-row_bytes : (row : List ℕ) → length (row_bytes row) ≡ 8 + length row
length-row_bytes row = length-append (to_be_bytes w64 (length row)) row
