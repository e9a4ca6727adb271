-- The entry that is written for an item, as a function of the item's contents.
use Rattle.std.specs.Prelude.{◌==◌, ◌<◌, ◌^◌, if◌then◌else◌, ⊤, ℕ, List, [], ◌∷◌, length, map, true}
use Rattle.std.specs.Prelude.{false, Option, Some, None, unwrap_or, Result, Ok, Err}
use Rattle.std.specs.Result.{result_ok}
use Rattle.jsonb_value.specs.declared.error.Error.{Error}
use Rattle.std.specs.Str.{IsUtf8}
use Rattle.jsonb_value.specs.NumCode.{NumCode}
use Rattle.jsonb_value.specs.ExtCode.{ExtCode}
use Rattle.jsonb_value.specs.WellFormed.{IsNumber, IsExtension}
use Rattle.jsonb_codec.specs.declared.constants.TheConstants.{SCALAR_CONTAINER_TAG, NULL_TAG}
use Rattle.jsonb_codec.specs.declared.constants.TheConstants.{STRING_TAG, NUMBER_TAG, FALSE_TAG}
use Rattle.jsonb_codec.specs.declared.constants.TheConstants.{TRUE_TAG, CONTAINER_TAG}
use Rattle.jsonb_codec.specs.declared.constants.TheConstants.{EXTENSION_TAG}
use Rattle.jsonb_codec.specs.WordBytes.{header_at}
use Rattle.jsonb_codec.specs.Doc.{IsDocument}
use Rattle.jsonb.specs.ItemView.{ItemView, null, boolean, number, text, extension, raw, owned}
use Rattle.jsonb.specs.Entry.{Code, entry_at}
use Rattle.jsonb.specs.Code.{number_bytes, extension_bytes}

-- The entry under a scalar's header; none under any other header, or if it is cut off.
abbrev pub entry_under : Result (ℕ × ℕ) Error → List ℕ → Option Code
entry_under (Ok header) b =
    if header.0 == SCALAR_CONTAINER_TAG then result_ok (entry_at b 4 8) else None
entry_under (Err e) b = None

-- The entry of a scalar's document; none for any other bytes.
unfoldable pub scalar_entry : List ℕ → Option Code
scalar_entry b = entry_under (header_at b 0) b

-- The entry with which a document is stored: a scalar's own, or an array or object whole.
abbrev pub document_code : List ℕ → Code
document_code b = unwrap_or (scalar_entry b) (record { type = CONTAINER_TAG; payload = b })

-- The entry with which an item is stored, if it has one.
abbrev pub entry_of_item : ItemView → Code
entry_of_item null = record { type = NULL_TAG; payload = [] }
entry_of_item (boolean false) = record { type = FALSE_TAG; payload = [] }
entry_of_item (boolean true) = record { type = TRUE_TAG; payload = [] }
entry_of_item (number given x) = record { type = NUMBER_TAG; payload = number_bytes given x }
entry_of_item (text s) = record { type = STRING_TAG; payload = s }
entry_of_item (extension given e) =
    record { type = EXTENSION_TAG; payload = extension_bytes given e }
entry_of_item (raw b) = document_code b
entry_of_item (owned b) = document_code b

-- The type and the payload of an entry, as a pair.
abbrev pub pair_of : Code → ℕ × List ℕ
pair_of entry = (entry.type, entry.payload)

-- The type and the payload with which an item is stored.
abbrev pub stored_code : ItemView → ℕ × List ℕ
stored_code x = pair_of (entry_of_item x)

-- The item has an entry: its bytes, if it holds bytes, are a document.
abbrev pub IsStored : ItemView → Type 0
IsStored null = ⊤
IsStored (boolean b) = ⊤
IsStored (number given x) = ⊤
IsStored (text s) = ⊤
IsStored (extension given e) = ⊤
IsStored (raw b) = IsDocument b
IsStored (owned b) = IsDocument b

-- The item has an entry, and its payload does not exceed the limit.
abbrev pub IsStorable : ItemView → Type 0
IsStorable x = IsStored x × (length (entry_of_item x).payload < 2 ^ 28)

-- Each item satisfies `IsStorable`.
abbrev pub AreStorable : List ItemView → Type 0
AreStorable [] = ⊤
AreStorable (x ∷ xs) = IsStorable x × AreStorable xs

-- The entries with which these items are stored.
abbrev pub codes_of : List ItemView → List Code
codes_of xs = map entry_of_item xs

-- The contents of an item are consistent: a number is in the range of its type, a text is UTF-8,
-- and given bytes encode the value.
abbrev pub IsHeld : ItemView → Type 0
IsHeld null = ⊤
IsHeld (boolean b) = ⊤
IsHeld (number None x) = IsNumber x
IsHeld (number (Some p) x) = NumCode p x
IsHeld (text s) = IsUtf8 s
IsHeld (extension None e) = IsExtension e
IsHeld (extension (Some p) e) = ExtCode p e
IsHeld (raw b) = ⊤
IsHeld (owned b) = ⊤

-- Each item satisfies `IsHeld`.
abbrev pub AreHeld : List ItemView → Type 0
AreHeld [] = ⊤
AreHeld (x ∷ xs) = IsHeld x × AreHeld xs
