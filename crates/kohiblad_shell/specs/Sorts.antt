-- Rows that are sorted by their keys.
use Rattle.std.specs.Prelude.{◌≡◌, ℕ, List, [], ◌∷◌, ◌++◌, Bool, true, false, Option, Some, None}
use Rattle.std.specs.Prelude.{IsPermutation, IsSorted, flat_map, nat_eq, reverse, cond}
use Rattle.std.specs.Cmp.Lexicographic.{pointwise, slice_cmp}
use Rattle.std.specs.List.Sorted.{IsStable}
use Rattle.std.specs.Ordering.{nat_cmp, on}
use Rattle.jsonb.specs.StoredRow.{row_bytes}
use Rattle.kohiblad_shell.specs.declared.sort.Arrangement.{Arrangement}
use Rattle.kohiblad_shell.specs.declared.sort.Keyed.{Keyed}

-- The key of a row, and its line.
abbrev pub keyed_key : Keyed → List ℕ
keyed_key row = row.key.now

abbrev pub keyed_line : Keyed → List ℕ
keyed_line row = row.line.now

-- The bytes that a run keeps of a row: its key and its line, each after its length.
abbrev pub key_and_line : List ℕ → List ℕ → List ℕ
key_and_line key line = row_bytes key ++ row_bytes line

abbrev pub keyed_bytes : Keyed → List ℕ
keyed_bytes row = key_and_line row.key.now row.line.now

-- Whether there is a last row and it has the key of this one.
abbrev pub has_key : Option Keyed → Keyed → Bool
has_key None row = false
has_key (Some last) row = pointwise nat_eq last.key.now row.key.now

-- The rows without those that have the key of the row before.
abbrev pub distinct : Option Keyed → List Keyed → List Keyed
distinct last [] = []
distinct last (row ∷ rows) =
    cond (has_key last row) (distinct (Some row) rows) (row ∷ distinct (Some row) rows)

-- The rows from the last one on, or as they are.
abbrev pub turned : Bool → List Keyed → List Keyed
turned true rows = reverse rows
turned false rows = rows

-- Sorted rows as they are arranged.
abbrev pub arranged : Arrangement → List Keyed → List Keyed
arranged arrangement rows =
    turned arrangement.is_reversed (cond arrangement.is_unique (distinct None rows) rows)

-- These are the rows that stand in the bytes, each with its key: sorted by their keys, so that
-- those of one key keep their order, and arranged.
pub record AreSorted (arrangement : Arrangement) (bytes : List ℕ) (rows : List Keyed) : Type 0 where
  pub read : List Keyed
  pub sorted : List Keyed
  pub of_bytes : bytes ≡ flat_map keyed_bytes read
  pub permutation : IsPermutation read sorted
  pub order : IsSorted (on keyed_key (slice_cmp nat_cmp)) sorted
  pub stable : IsStable (on keyed_key (slice_cmp nat_cmp)) read sorted
  pub rows_are : rows ≡ arranged arrangement sorted
