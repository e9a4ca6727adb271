-- The order of rows, as C receives it.
use Rattle.std.specs.Prelude.{◌≡◌, ◌<◌, ◌≤◌, ◌⊎◌, ℕ, true, false, List, [], ◌++◌, length, drop}
use Rattle.std.specs.Prelude.{slice_index_or}
use Rattle.std.specs.List.{range_with_len}
use Rattle.std.specs.List.Sorted.{IsPermutation, IsSorted}
use Rattle.std.specs.Ordering.{nat_cmp, ordering_then}
use Rattle.std.specs.declared.cmp.Ordering.{Ordering}
use Rattle.jsonb_value.specs.declared.error.Error.TheVariants as errors
use Rattle.jsonb_value.specs.Meaning.{Meaning, meaning_cmp}
use Rattle.kohiblad.specs.Status.{code, no_room}
use Rattle.kohiblad.specs.Rows.{are_offsets}
use Rattle.typed_vector.specs.Cells.{rows}

-- Compares two rows by their meaning, and equal ones by their numbers.
abbrev pub row_cmp : (List ℕ → Meaning) → List (List ℕ) → ℕ → ℕ → Ordering
row_cmp means all i j = ordering_then
    (meaning_cmp (means (slice_index_or all i [])) (means (slice_index_or all j [])))
    (nat_cmp i j)

-- The numbers are those of all rows, each once, and the rows ascend.
pub record IsOrderOf (means : List ℕ → Meaning) (all : List (List ℕ)) (numbers : List ℕ)
    : Type 0 where
  pub each_once : IsPermutation (range_with_len 0 (length all)) numbers
  pub ascend : IsSorted (row_cmp means all) numbers

-- The order of these rows is at the start of the buffer, and the rest is unchanged; or there is not
-- enough memory.
abbrev pub AreOrdered : (List ℕ → Meaning) → List (List ℕ) → List ℕ → List ℕ → ℕ → Type 0
AreOrdered means all before after status =
    ((numbers : List ℕ)
    × (IsOrderOf means all numbers
    × ((after ≡ numbers ++ drop (length all) before) × (status ≡ 0))))
    ⊎ ((status ≡ code errors.OutOfMemory) × (after ≡ before))

-- Offsets that are below the previous one or beyond the bytes are refused first, then too short a
-- buffer; otherwise the rows are ordered as `AreOrdered` says.
abbrev pub AreRowsOrdered : (List ℕ → Meaning) → List ℕ → List ℕ → List ℕ → List ℕ → ℕ → Type 0
AreRowsOrdered means bytes offsets before after status =
    ((are_offsets (length bytes) 0 offsets ≡ false)
    × ((status ≡ code errors.InvalidEOF) × (after ≡ before)))
    ⊎ ((are_offsets (length bytes) 0 offsets ≡ true)
    × (((length before < length (rows bytes offsets))
    × ((status ≡ no_room) × (after ≡ before)))
    ⊎ ((length (rows bytes offsets) ≤ length before)
    × AreOrdered means (rows bytes offsets) before after status)))
