-- Whether a dictionary's entries, and the places of rows in it, are those that are written.
use Rattle.std.specs.Prelude.{ℕ, ◌==◌, ◌&&◌, Bool, true, false, not, List, [], ◌∷◌, Option, Some}
use Rattle.std.specs.Prelude.{None, if◌then◌else◌, length, nat_lt}
use Rattle.std.specs.Cmp.Lexicographic.{slice_cmp}
use Rattle.std.specs.List.{list_all, list_any, range_with_len}
use Rattle.std.specs.Ordering.{is_lt, nat_cmp}
use Rattle.typed_chunk.specs.declared.fault.ChunkFault.{ChunkFault}
use Rattle.typed_chunk.specs.declared.fault.ChunkFault.TheVariants.{EntriesNotAscending}
use Rattle.typed_chunk.specs.declared.fault.ChunkFault.TheVariants.{EntryOfNoRow, NoSuchEntry}
use Rattle.typed_chunk.specs.declared.fault.ChunkFault.TheVariants.{PlaceOfNoValue}
use Rattle.typed_vector.specs.ZoneMap.{set_values}

-- Whether each text is greater by its bytes than the one before it, where one was before them.
abbrev pub ascend_from : List ℕ → List (List ℕ) → Bool
ascend_from before [] = true
ascend_from before (text ∷ texts) =
    is_lt (slice_cmp nat_cmp before text) && ascend_from text texts

-- Whether each text is greater by its bytes than the one before it.
abbrev pub texts_ascend : List (List ℕ) → Bool
texts_ascend [] = true
texts_ascend (text ∷ texts) = ascend_from text texts

-- Whether each row that has no text has the place 0.
abbrev pub are_zeros : List ℕ → List Bool → Bool
are_zeros [] has = true
are_zeros (place ∷ places) [] = true
are_zeros (place ∷ places) (true ∷ has) = are_zeros places has
are_zeros (place ∷ places) (false ∷ has) = (place == 0) && are_zeros places has

-- Whether one of the places is that of the entry.
abbrev pub is_used : List ℕ → ℕ → Bool
is_used places entry = list_any (λ place. place == entry) places

-- Whether each of so many entries has a place.
abbrev pub all_used : ℕ → List ℕ → Bool
all_used count places = list_all (is_used places) (range_with_len 0 count)

-- What is wrong with entries and with the places of rows: the entries do not ascend, or else one
-- of the places is none of an entry, or else a row that has no text has another one than 0, or
-- else an entry is that of no row that has a text.
abbrev pub places_fault : List (List ℕ) → List ℕ → List Bool → Option ChunkFault
places_fault entries places has =
    if not (texts_ascend entries) then Some EntriesNotAscending
    else if not (list_all (λ place. nat_lt place (length entries)) places) then Some NoSuchEntry
    else if not (are_zeros places has) then Some PlaceOfNoValue
    else if not (all_used (length entries) (set_values places has)) then Some EntryOfNoRow
    else None
