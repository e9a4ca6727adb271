-- The chunk of a column of texts: which rows have one, and the texts in the shorter kind.
use Rattle.std.specs.Prelude.{ℕ, suc, ◌++◌, ◌&&◌, Bool, true, false, List, [], ◌∷◌}
use Rattle.std.specs.Prelude.{if◌then◌else◌, length, nat_le, nat_lt}
use Rattle.std.specs.Cmp.Lexicographic.{slice_cmp}
use Rattle.std.specs.Ordering.{is_eq, nat_cmp}
use Rattle.typed_chunk.specs.Dictionary.{dictionary_bytes}
use Rattle.typed_chunk.specs.Entries.{entries_of}
use Rattle.typed_chunk.specs.Flags.{flags, some_has}
use Rattle.typed_chunk.specs.Texts.{text_bytes}
use Rattle.typed_vector.specs.ZoneMap.{set_values}

-- How many entries are before the first that is the text.
abbrev pub place_in : List (List ℕ) → List ℕ → ℕ
place_in [] text = 0
place_in (entry ∷ entries) text =
    if is_eq (slice_cmp nat_cmp entry text) then 0 else suc (place_in entries text)

-- The place of each row's text among the entries, and 0 for a row that has none.
abbrev pub places_among : List (List ℕ) → List (List ℕ) → List Bool → List ℕ
places_among entries [] has = []
places_among entries (text ∷ texts) [] = []
places_among entries (text ∷ texts) (true ∷ has) =
    place_in entries text ∷ places_among entries texts has
places_among entries (text ∷ texts) (false ∷ has) = 0 ∷ places_among entries texts has

-- The texts that differ of the rows that have one, ascending by their bytes.
abbrev pub row_entries : List (List ℕ) → List Bool → List (List ℕ)
row_entries texts has = entries_of (set_values texts has)

-- The bytes of the rows' texts as a dictionary.
abbrev pub coded_bytes : List (List ℕ) → List Bool → List ℕ
coded_bytes texts has =
    dictionary_bytes (row_entries texts has) (places_among (row_entries texts has) texts has)

-- Whether texts take fewer bytes as a dictionary: at most 256 differ, and these bytes are fewer.
abbrev pub dictionary_shorter : List (List ℕ) → List Bool → Bool
dictionary_shorter texts has =
    nat_le (length (row_entries texts has)) 256
    && nat_lt (length (coded_bytes texts has)) (length (text_bytes texts has))

-- The kind of texts, and they: 2 and a dictionary where it is shorter, else 0 and the texts.
abbrev pub text_kind : List (List ℕ) → List Bool → List ℕ
text_kind texts has =
    if dictionary_shorter texts has then 2 ∷ coded_bytes texts has else 0 ∷ text_bytes texts has

-- The kind and the texts of the rows, or nothing if no row has one.
abbrev pub kind_bytes : List (List ℕ) → List Bool → List ℕ
kind_bytes texts has = if some_has has then text_kind texts has else []

-- The chunk: the flags of the rows, the kind and the texts.
abbrev pub text_chunk : List (List ℕ) → List Bool → List ℕ
text_chunk texts has = flags has ++ kind_bytes texts has
