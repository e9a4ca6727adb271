-- Runs: the rows of parts, sorted, each with its key; and merging them.
use Rattle.std.specs.Prelude.{◌≡◌, ◌<◌, ◌^◌, ◌&&◌, ⊤, ℕ, Bool, true, false, not, List, [], ◌∷◌}
use Rattle.std.specs.Prelude.{◌++◌, Option, None, Some, flat_map, length, nat_eq, reverse}
use Rattle.std.specs.Prelude.{slice_index_or}
use Rattle.std.specs.Cmp.Lexicographic.{pointwise, slice_cmp}
use Rattle.std.specs.Io.KnownBytes.{Appends}
use Rattle.std.specs.Ordering.{is_gt, is_lt, nat_cmp}
use Rattle.answer_lines.specs.Output.{AppendsPrefix}
use Rattle.kohiblad_shell.specs.declared.sort.Arrangement.{Arrangement}
use Rattle.kohiblad_shell.specs.declared.sort.Keyed.{Keyed}
use Rattle.kohiblad_shell.specs.declared.sorted_run.LastKey.{LastKey}
use Rattle.kohiblad_shell.specs.declared.sorted_run.RowParts.{RowParts}
use Rattle.kohiblad_shell.specs.declared.sorted_run.RowParts.TheVariants.{Line, KeyAndLine}
use Rattle.kohiblad_shell.specs.declared.sorted_run.RunHead.{RunHead}
use Rattle.kohiblad_shell.specs.Sorts.{AreSorted, key_and_line, keyed_bytes, keyed_line}

-- Each key and each line has fewer bytes than a length can say.
abbrev pub HaveLengths : List Keyed → Type 0
HaveLengths [] = ⊤
HaveLengths (row ∷ rows) = (length row.key.now < 2 ^ 64)
    × ((length row.line.now < 2 ^ 64) × HaveLengths rows)

-- The bytes are the run of a part: its rows, sorted and arranged, each with its key.
pub record IsSortedRun (arrangement : Arrangement) (part run : List ℕ) : Type 0 where
  pub rows : List Keyed
  pub sorted : AreSorted arrangement part rows
  pub lengths : HaveLengths rows
  pub bytes : run ≡ flat_map keyed_bytes rows

-- The run of a part was written.
pub record WritesRun (arrangement : Arrangement) (part : List ℕ) (old new : Option (List ℕ))
    : Type 0 where
  pub run : List ℕ
  pub is : IsSortedRun arrangement part run
  pub output : Appends old new run

-- What is written of a row.
abbrev pub row_parts : RowParts → Keyed → List ℕ
row_parts Line row = keyed_line row
row_parts KeyAndLine row = keyed_bytes row

-- A reader has the run of a part left.
abbrev pub HasRun : Arrangement → Option (List ℕ) → List ℕ → Type 0
HasRun arrangement None part = ⊥
HasRun arrangement (Some run) part = IsSortedRun arrangement part run

-- Each reader has the run of its part left.
abbrev pub HaveRuns : {R : Type 0} → (R → Option (List ℕ)) → Arrangement → List R
    → List (List ℕ) → Type 0
HaveRuns remaining arrangement [] [] = ⊤
HaveRuns remaining arrangement [] (part ∷ parts) = ⊥
HaveRuns remaining arrangement (reader ∷ readers) [] = ⊥
HaveRuns remaining arrangement (reader ∷ readers) (part ∷ parts) =
    HasRun arrangement (remaining reader) part × HaveRuns remaining arrangement readers parts

-- The rows of all parts were written: sorted and arranged as those of one part.
pub record MergesRuns (arrangement : Arrangement) (parts : List (List ℕ)) (what : RowParts)
    (old new : Option (List ℕ)) : Type 0 where
  pub rows : List Keyed
  pub sorted : AreSorted arrangement (flat_map (λ part. part) parts) rows
  pub lengths : HaveLengths rows
  pub output : Appends old new (flat_map (row_parts what) rows)

-- A prefix of them was written.
pub record BeginsRuns (arrangement : Arrangement) (parts : List (List ℕ)) (what : RowParts)
    (old new : Option (List ℕ)) : Type 0 where
  pub rows : List Keyed
  pub sorted : AreSorted arrangement (flat_map (λ part. part) parts) rows
  pub output : AppendsPrefix old new (flat_map (row_parts what) rows)

-- Whether runs are merged from the last one on: of rows of one key, which are all kept, the last
-- one then comes first.
abbrev pub is_turned : Arrangement → Bool
is_turned arrangement = arrangement.is_reversed && not arrangement.is_unique

abbrev pub turned_if : {X : Type 0} → Bool → List X → List X
turned_if true xs = reverse xs
turned_if false xs = xs

-- ---- the next rows of runs

-- The next row of a run was taken, if it has one.
abbrev pub TakesIf : Bool → List ℕ → List ℕ → List ℕ → List ℕ → Type 0
TakesIf true bytes rest key line = (length key < 2 ^ 64)
    × ((length line < 2 ^ 64) × (bytes ≡ key_and_line key line ++ rest))
TakesIf false bytes rest key line = bytes ≡ []

-- The same where the bytes are known.
abbrev pub ReadsHead : Option (List ℕ) → Option (List ℕ) → RunHead → Type 0
ReadsHead None new head = ⊤
ReadsHead (Some bytes) None head = ⊥
ReadsHead (Some bytes) (Some rest) head =
    TakesIf head.is_there bytes rest head.key.items head.line.items

-- The next row of each run was taken.
pub record ReadHeads {R : Type 0} (remaining : R → Option (List ℕ)) (old new : List R)
    (heads : List RunHead) : Type 0 where
  pub count : length heads ≡ length old
  pub read : (i : ℕ) (r : R) (h : RunHead) → i < length old → ReadsHead
      (remaining (slice_index_or old i r)) (remaining (slice_index_or new i r))
      (slice_index_or heads i h)

-- Whether the key of a row comes before another.
abbrev pub is_before : Bool → List ℕ → List ℕ → Bool
is_before true key other = is_gt (slice_cmp nat_cmp key other)
is_before false key other = is_lt (slice_cmp nat_cmp key other)

-- The row of this run comes before those of the runs before it, and none of those after it comes
-- before it.
pub record IsFirst (heads : List RunHead) (is_reversed : Bool) (count i : ℕ) : Type 0 where
  pub low : i < count
  pub there : (h : RunHead) → (slice_index_or heads i h).is_there ≡ true
  pub before : (j : ℕ) (h : RunHead) → j < i → (slice_index_or heads j h).is_there ≡ true
      → is_before is_reversed (slice_index_or heads i h).key.items
      (slice_index_or heads j h).key.items ≡ true
  pub others : (j : ℕ) (h : RunHead) → i < j → j < count
      → (slice_index_or heads j h).is_there ≡ true
      → is_before is_reversed (slice_index_or heads j h).key.items
      (slice_index_or heads i h).key.items ≡ false

-- The run with the first row, if there is a row, among so many runs.
abbrev pub IsFirstInput : List RunHead → Bool → ℕ → Option ℕ → Type 0
IsFirstInput heads is_reversed count None =
    (j : ℕ) (h : RunHead) → j < count → (slice_index_or heads j h).is_there ≡ false
IsFirstInput heads is_reversed count (Some i) = IsFirst heads is_reversed count i

-- Whether a row is passed over: one is kept of each key, and the last row had this one.
abbrev pub has_last_key : LastKey → RunHead → Bool
has_last_key last head = last.is_there && pointwise nat_eq last.key.items head.key.items

abbrev pub passes_over : Bool → LastKey → RunHead → Bool
passes_over is_unique last head = is_unique && has_last_key last head

-- What is written of the next row of a run.
abbrev pub head_parts : RowParts → RunHead → List ℕ
head_parts Line head = head.line.items
head_parts KeyAndLine head = key_and_line head.key.items head.line.items

-- The last key is that of a row.
abbrev pub KeepsKey : LastKey → RunHead → Type 0
KeepsKey last head = (last.is_there ≡ true) × (last.key.items ≡ head.key.items)

-- A row was written, unless it is passed over.
abbrev pub WritesIf : Bool → Bool → RowParts → RunHead → LastKey → LastKey → Option (List ℕ)
    → Option (List ℕ) → Type 0
WritesIf true is_unique what head last next old new = (next ≡ last) × Appends old new []
WritesIf false is_unique what head last next old new =
    (is_unique ≡ true → KeepsKey next head) × Appends old new (head_parts what head)
