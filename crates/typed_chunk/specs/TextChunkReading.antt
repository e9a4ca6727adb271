-- What bytes tell as a chunk of texts.
use Rattle.std.specs.Prelude.{◌≡◌, ◌≢◌, ◌<◌, ℕ, ◌+◌, ◌-◌, ◌++◌, Bool, true, false, IsTrue, List, []}
use Rattle.std.specs.Prelude.{◌∷◌, Option, Some, None, Result, Ok, Err, drop, get_or}
use Rattle.std.specs.Prelude.{if◌then◌else◌, length, map, replicate, take}
use Rattle.typed_chunk.specs.Dictionary.{dictionary_bytes, dictionary_fault, entry_bytes}
use Rattle.typed_chunk.specs.Flags.{some_has}
use Rattle.typed_chunk.specs.Places.{places_fault}
use Rattle.typed_chunk.specs.TextChunk.{dictionary_shorter}
use Rattle.typed_chunk.specs.TextReading.{are_blank, texts_fault, with_beginning}
use Rattle.typed_chunk.specs.Texts.{text_bytes}
use Rattle.typed_chunk.specs.declared.fault.ChunkFault.{ChunkFault}
use Rattle.typed_chunk.specs.declared.fault.ChunkFault.TheVariants.{NoSuchKind, NotShortestKind}
use Rattle.typed_chunk.specs.declared.fault.ChunkFault.TheVariants.{WrongLength}
use Rattle.typed_chunk.specs.declared.fault.ReadError.{ReadError}
use Rattle.typed_chunk.specs.declared.fault.ReadError.TheVariants.{OutOfMemory, Refused}
use Rattle.typed_chunk.specs.declared.text_chunk_reading.ChunkTexts.{ChunkTexts}
use Rattle.typed_chunk.specs.declared.text_chunk_reading.ChunkTexts.TheVariants.{Blank, Coded}
use Rattle.typed_chunk.specs.declared.text_chunk_reading.ChunkTexts.TheVariants.{Plain}
use Rattle.typed_vector.specs.Cells.{rows}

-- What is known of the fault of bytes, if any, by how their reading ended; nothing if memory was
-- refused.
abbrev pub IfRead : {T : Type 0} → Result T ReadError → (Option ChunkFault → Type 0) → Type 0
IfRead (Ok read) P = P None
IfRead (Err (Refused fault)) P = P (Some fault)
IfRead (Err OutOfMemory) P = Unit {0}

-- The text of the entry at each row's place; a row that has none is empty.
abbrev pub placed : List (List ℕ) → List ℕ → List Bool → List (List ℕ)
placed entries [] has = []
placed entries (place ∷ places) [] = []
placed entries (place ∷ places) (true ∷ has) = get_or entries place [] ∷ placed entries places has
placed entries (place ∷ places) (false ∷ has) = [] ∷ placed entries places has

-- The texts that a chunk was read as, by the offsets and the places beside it.
abbrev pub texts_read : ChunkTexts → List ℕ → List ℕ → List Bool → List (List ℕ)
texts_read Blank offsets places has = map (λ flag. []) has
texts_read (Plain texts) offsets places has =
    with_beginning texts.start.now (rows texts.tails.now (take (length has + 1) offsets)) has
texts_read (Coded entries count) offsets places has =
    placed (with_beginning entries.start.now (rows entries.tails.now (take (count + 1) offsets))
    (replicate count true)) places has

-- What is wrong with bytes that begin with texts: there are more, or else the texts take fewer as a
-- dictionary.
abbrev pub whole_fault : List (List ℕ) → List Bool → List ℕ → Option ChunkFault
whole_fault texts has (byte ∷ rest) = Some WrongLength
whole_fault texts has [] =
    if dictionary_shorter texts has then Some NotShortestKind else None

-- The fault of bytes of texts as they are: that of the texts, or else of what they begin with.
pub record IsPlainFault (has : List Bool) (bytes : List ℕ) (fault : Option ChunkFault)
    : Type 0 where
  pub texts : (first : ChunkFault) → texts_fault has bytes ≡ Some first → fault ≡ Some first
  pub whole : (texts : List (List ℕ)) (rest : List ℕ) → length texts ≡ length has
      → IsTrue (are_blank texts has) → bytes ≡ text_bytes texts has ++ rest
      → fault ≡ whole_fault texts has rest

-- What is wrong with a dictionary of texts: it takes no fewer bytes than they do.
abbrev pub coded_fault : List (List ℕ) → List Bool → Option ChunkFault
coded_fault texts has = if dictionary_shorter texts has then None else Some NotShortestKind

-- The fault of bytes of a dictionary: there are none, or else that of the entries, of the places,
-- or of a dictionary that takes no fewer bytes than the texts.
pub record IsCodedFault (has : List Bool) (bytes : List ℕ) (fault : Option ChunkFault)
    : Type 0 where
  pub empty : bytes ≡ [] → fault ≡ Some WrongLength
  pub texts : (first : ChunkFault) → 0 < length bytes
      → texts_fault (replicate (get_or bytes 0 0 + 1) true) (drop 1 bytes) ≡ Some first
      → fault ≡ Some first
  pub places : (first : ChunkFault) (entries : List (List ℕ)) (rest : List ℕ)
      → 0 < length entries → bytes ≡ (length entries - 1) ∷ (entry_bytes entries ++ rest)
      → dictionary_fault entries has rest ≡ Some first → fault ≡ Some first
  pub whole : (entries : List (List ℕ)) (places : List ℕ) → 0 < length entries
      → length places ≡ length has → places_fault entries places has ≡ None
      → bytes ≡ dictionary_bytes entries places
      → fault ≡ coded_fault (placed entries places has) has

-- The fault of a kind and of the bytes behind it.
pub record IsKindFault (has : List Bool) (kind : ℕ) (bytes : List ℕ) (fault : Option ChunkFault)
    : Type 0 where
  pub plain : kind ≡ 0 → IsPlainFault has bytes fault
  pub coded : kind ≡ 2 → IsCodedFault has bytes fault
  pub other : kind ≢ 0 → kind ≢ 2 → fault ≡ Some NoSuchKind

-- The fault of the bytes behind flags, by whether one of these is set.
abbrev pub IsFaultBehind : Bool → List Bool → List ℕ → Option ChunkFault → Type 0
IsFaultBehind false has [] fault = fault ≡ None
IsFaultBehind false has (kind ∷ bytes) fault = fault ≡ Some WrongLength
IsFaultBehind true has [] fault = fault ≡ Some WrongLength
IsFaultBehind true has (kind ∷ bytes) fault = IsKindFault has kind bytes fault

-- The fault of the bytes behind the flags of these rows.
abbrev pub IsTextsFault : List Bool → List ℕ → Option ChunkFault → Type 0
IsTextsFault has bytes fault = IsFaultBehind (some_has has) has bytes fault
