-- The results of building from rows, as C receives them.
use Rattle.std.specs.Prelude.{◌≡◌, ◌%◌, ◌&&◌, ◌==◌, ◌⊎◌, ℕ, Bool, false, true, List, length}
use Rattle.std.specs.Prelude.{⊤, [], ◌∷◌, Result, Ok, Err}
use Rattle.std.specs.List.{IsDistinct}
use Rattle.std.specs.Map.{keys_of, values_of}
use Rattle.std.specs.Str.{bytes_eq, IsUtf8}
use Rattle.jsonb_value.specs.declared.error.Error.{Error}
use Rattle.jsonb_value.specs.declared.error.Error.TheVariants.{InvalidEOF, InvalidJsonb}
use Rattle.jsonb_value.specs.declared.error.Error.TheVariants.{InvalidUtf8, ObjectDuplicateKey}
use Rattle.jsonb_value.specs.declared.error.Error.TheVariants.{OutOfMemory}
use Rattle.jsonb_codec.specs.Depth.{IsDocumentWithin}
use Rattle.jsonb_codec.specs.Doc.{IsDocument}
use Rattle.jsonb.specs.Building.{AreTexts}
use Rattle.jsonb.specs.Results.{AreWithinLimits, IsArrayOfDocuments, IsObjectOfDocuments}
use Rattle.jsonb.specs.Results.{PairsExceedLimits}
use Rattle.kohiblad.specs.Status.{code, IsOneAnswered, IsRefused}
use Rattle.kohiblad.specs.Rows.{are_offsets}
use Rattle.typed_vector.specs.Cells.{rows}

-- Each of these is a document of at most this depth.
abbrev pub AreWithin : ℕ → List (List ℕ) → Type 0
AreWithin depth [] = ⊤
AreWithin depth (document ∷ documents) =
    IsDocumentWithin depth document × AreWithin depth documents

-- The key is UTF-8, and the bytes at it are a document.
abbrev pub IsMember : List ℕ × List ℕ → Type 0
IsMember pair = IsUtf8 pair.0 × IsDocument pair.1

-- The result of building the array of these documents, or why there is none: `InvalidJsonb` if one
-- is not a document of at most this depth, and else exactly if a limit of the format is exceeded.
abbrev pub BuildsArray : ℕ → List (List ℕ) → Result (List ℕ) Error → Type 0
BuildsArray depth documents (Ok bytes) =
    AreWithin depth documents × IsArrayOfDocuments documents bytes
BuildsArray depth documents (Err InvalidJsonb) =
    AreWithin depth documents → AreWithinLimits documents → ⊥
BuildsArray depth documents (Err OutOfMemory) = AreWithin depth documents
BuildsArray depth documents (Err e) = ⊥

-- The result of building the object of these pairs, or why there is none: `InvalidJsonb` if the
-- document of a pair is not one of at most this depth, and else only if a limit of the format is
-- exceeded.
abbrev pub BuildsObject : ℕ → List (List ℕ × List ℕ) → Result (List ℕ) Error → Type 0
BuildsObject depth pairs (Ok bytes) = AreWithin depth (values_of pairs)
    × (AreTexts (keys_of pairs) × IsObjectOfDocuments pairs bytes)
BuildsObject depth pairs (Err InvalidJsonb) = AreWithin depth (values_of pairs)
    → AreTexts (keys_of pairs) × PairsExceedLimits pairs
BuildsObject depth pairs (Err InvalidUtf8) =
    AreWithin depth (values_of pairs) × (AreTexts (keys_of pairs) → ⊥)
BuildsObject depth pairs (Err ObjectDuplicateKey) = AreWithin depth (values_of pairs)
    × (AreTexts (keys_of pairs) × (IsDistinct bytes_eq (keys_of pairs) → ⊥))
BuildsObject depth pairs (Err OutOfMemory) =
    AreWithin depth (values_of pairs) × AreTexts (keys_of pairs)
BuildsObject depth pairs (Err e) = ⊥

-- The rows are refused if they are not what is asked for, and otherwise one of these results is the
-- answer.
abbrev pub IsOneOfRows : Bool → (Result (List ℕ) Error → Type 0) → List ℕ → List ℕ → ℕ → ℕ → Type 0
IsOneOfRows are Results before after size status =
    ((are ≡ false) × IsRefused (code InvalidEOF) before after size status)
    ⊎ ((are ≡ true) × IsOneAnswered Results before after size status)

-- The offsets give rows: none is below the previous one or beyond the bytes.
abbrev pub are_rows : List ℕ → List ℕ → Bool
are_rows bytes offsets = are_offsets (length bytes) 0 offsets

-- The rows are pairs: their number is even.
abbrev pub are_pairs : List ℕ → List ℕ → Bool
are_pairs bytes offsets = are_rows bytes offsets && (length (rows bytes offsets) % 2 == 0)
