-- The texts of rows that differ, and the places of the rows among them.
use Rattle.std.specs.Prelude.{◌≡◌, ◌<◌, ℕ, List, [], ◌∷◌, Bool, None, fold, get_or, if◌then◌else◌}
use Rattle.std.specs.Prelude.{length, map}
use Rattle.std.specs.Cmp.Lexicographic.{slice_cmp}
use Rattle.std.specs.Ordering.{is_eq, is_lt, nat_cmp}
use Rattle.typed_chunk.specs.Places.{places_fault}
use Rattle.typed_vector.specs.ZoneMap.{set_values}

-- Ascending texts with one more in its order; a text that is there is not put there again.
abbrev pub with_entry : List (List ℕ) → List ℕ → List (List ℕ)
with_entry [] text = text ∷ []
with_entry (entry ∷ entries) text =
    if is_lt (slice_cmp nat_cmp entry text) then entry ∷ with_entry entries text
    else if is_eq (slice_cmp nat_cmp entry text) then entry ∷ entries
    else text ∷ entry ∷ entries

-- The texts that differ, ascending by their bytes.
abbrev pub entries_of : List (List ℕ) → List (List ℕ)
entries_of texts = fold with_entry [] texts

-- The texts by their places among the entries.
abbrev pub texts_at : List (List ℕ) → List ℕ → List (List ℕ)
texts_at entries places = map (λ place. get_or entries place []) places

-- The text is that of the entry at the place.
pub record IsPlaceOf (entries : List (List ℕ)) (text : List ℕ) (place : ℕ) : Type 0 where
  pub inside : place < length entries
  pub same : get_or entries place [] ≡ text

-- Entries and places are those of a dictionary of the rows' texts: each row that has a text has
-- that of the entry at its place.
pub record IsDictionaryOf (texts : List (List ℕ)) (has : List Bool) (entries : List (List ℕ))
    (places : List ℕ) : Type 0 where
  pub many : length places ≡ length has
  pub each : set_values texts has ≡ texts_at entries (set_values places has)
  pub form : places_fault entries places has ≡ None
