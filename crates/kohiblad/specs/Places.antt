-- The positions of the parts of an array or object, and the results of calls on them as C receives
-- them.
use Rattle.std.specs.Prelude.{◌≡◌, ◌<◌, ℕ, ◌+◌, ◌-◌, ◌==◌, nat_le, if◌then◌else◌}
use Rattle.std.specs.Prelude.{◌⊎◌, List, ◌++◌, length, slice_get, Option, Some, None}
use Rattle.std.specs.Prelude.{option_map, Result, Ok, Err, IfOk, IfSome}
use Rattle.std.specs.Map.{keys_of, values_of}
use Rattle.std.specs.Option.{option_transpose, option_zip}
use Rattle.jsonb_value.specs.declared.error.Error.{Error}
use Rattle.jsonb_value.specs.Tree.{Tree, array, object}
use Rattle.jsonb_codec.specs.declared.constants.TheConstants.{ARRAY_CONTAINER_TAG}
use Rattle.jsonb_codec.specs.declared.constants.TheConstants.{OBJECT_CONTAINER_TAG, CONTAINER_TAG}
use Rattle.jsonb_codec.specs.WordBytes.{header_at}
use Rattle.jsonb.specs.Building.{key_codes}
use Rattle.jsonb.specs.Code.{scalar_bytes}
use Rattle.jsonb.specs.Entry.{IsEntryIn, entry_there, Code}
use Rattle.jsonb.specs.Entries.{entries_in}
use Rattle.jsonb.specs.ItemView.{ItemView}
use Rattle.jsonb.specs.Lookup.{LooksUpBytes}
use Rattle.jsonb.specs.Prefix.{is_name}
use Rattle.jsonb.specs.Steps.{◌>>=◌}
use Rattle.jsonb.specs.StoredEntries.{IsArrayOfEntries, IsObjectOfEntries, find_entry}
use Rattle.jsonb.specs.declared.entries.Entry.{Entry}
use Rattle.kohiblad.specs.declared.places.KohibladPlace.{KohibladPlace}
use Rattle.kohiblad.specs.Status.{code, none, no_room, IsCopied, IsHandedOver, IsRefused}

-- The part with this number: an array's item, or one of an object's keys and then its values.
abbrev pub part_in : List ℕ → ℕ → Result (Option Entry) Error
part_in bytes number = entries_in bytes >>= λ parts. option_transpose (slice_get parts number)

-- The item with this index under this header; none unless it is an array's.
abbrev pub item_part : List ℕ → ℕ → ℕ × ℕ → Result (Option Entry) Error
item_part bytes index header =
    if header.0 == ARRAY_CONTAINER_TAG then part_in bytes index else Ok None

-- The position of an item of an array.
abbrev pub place_of_item : List ℕ → ℕ → Result (Option Entry) Error
place_of_item bytes index = header_at bytes 0 >>= item_part bytes index

-- Both of two parts, or the first error.
abbrev pub both_parts : Result (Option Entry) Error → Result (Option Entry) Error
    → Result (Option (Entry × Entry)) Error
both_parts first second = do
  key ← first
  value ← second
  Ok (option_zip key value)

-- The key with this index and its value under this header; none unless it is an object's. The
-- values come after all keys.
abbrev pub member_under : List ℕ → ℕ → ℕ × ℕ → Result (Option (Entry × Entry)) Error
member_under bytes index header =
    if header.0 == OBJECT_CONTAINER_TAG
    then (if nat_le header.1 index then Ok None
    else both_parts (part_in bytes index) (part_in bytes (header.1 + index)))
    else Ok None

-- The positions of a key and its value in an object.
abbrev pub member_places : List ℕ → ℕ → Result (Option (Entry × Entry)) Error
member_places bytes index = header_at bytes 0 >>= member_under bytes index

-- The position of the value that a look-up finds: the header and the entries of the parts before
-- its entry were read.
abbrev pub value_place : List ℕ → ℕ → Result (Option ItemView) Error
    → Result (Option Entry) Error
value_place bytes reads (Ok (Some x)) = part_in bytes (reads - 2)
value_place bytes reads (Ok None) = Ok None
value_place bytes reads (Err e) = Err e

-- The position is that of the value that a look-up of the name finds in these bytes.
pub record IsPlaceFound (name bytes : List ℕ) (found : Result (Option Entry) Error) :
    Type 0 where
  pub item : Result (Option ItemView) Error
  pub reads : ℕ
  pub looks_up : LooksUpBytes (λ key b. b ≡ is_name name key) (length name) bytes item reads
  pub place : found ≡ value_place bytes reads item

-- A position that was found satisfies `IsEntryIn`.
abbrev pub IsInside : List ℕ → Result (Option Entry) Error → Type 0
IsInside bytes found = IfOk found (λ o. IfSome o (IsEntryIn bytes))

-- Both positions of a member that was found satisfy `IsEntryIn`.
abbrev pub AreBothInside : List ℕ → Result (Option (Entry × Entry)) Error → Type 0
AreBothInside bytes found =
    IfOk found (λ o. IfSome o (λ places. IsEntryIn bytes places.0 × IsEntryIn bytes places.1))

-- A position, none, or an error, as C receives it.
abbrev pub place_answer : Result (Option Entry) Error → KohibladPlace
place_answer (Ok (Some place)) =
    record { status = 0; type_code = place.type_code; offset = place.start; length = place.length }
place_answer (Ok None) = record { status = none; type_code = 0; offset = 0; length = 0 }
place_answer (Err e) = record { status = code e; type_code = 0; offset = 0; length = 0 }

-- The document of an entry: a container's payload, or the document of a scalar.
abbrev pub entry_document : Code → List ℕ
entry_document entry =
    if entry.type == CONTAINER_TAG then entry.payload else scalar_bytes entry.type entry.payload

-- The document at the position is handed over, if there is one.
abbrev pub IsPlaceHandedOver : List ℕ → Result (Option Entry) Error → List ℕ → List ℕ → ℕ → ℕ
    → Type 0
IsPlaceHandedOver bytes (Ok (Some place)) before after size status =
    IsHandedOver (entry_document (entry_there bytes place)) before after size status
IsPlaceHandedOver bytes (Ok None) before after size status = IsRefused none before after size status
IsPlaceHandedOver bytes (Err e) before after size status =
    IsRefused (code e) before after size status

-- Both results were copied, or one of the buffers is too small and both are unchanged; in any case
-- both lengths are stored.
abbrev pub AreHandedOver : List ℕ → List ℕ → List ℕ → ℕ → List ℕ → List ℕ → List ℕ → ℕ → ℕ → Type 0
AreHandedOver key key_before key_after key_size answer before after size status =
    (key_size ≡ length key)
    × ((size ≡ length answer)
    × (((status ≡ 0) × (IsCopied key key_before key_after × IsCopied answer before after))
    ⊎ ((status ≡ no_room)
    × (((length key_before < length key) ⊎ (length before < length answer))
    × ((key_after ≡ key_before) × (after ≡ before))))))

-- A key and the document of its value are handed over, if there are such positions.
abbrev pub IsMemberHandedOver : List ℕ → Result (Option (Entry × Entry)) Error
    → List ℕ → List ℕ → ℕ → List ℕ → List ℕ → ℕ → ℕ → Type 0
IsMemberHandedOver bytes (Ok (Some places)) key_before key_after key_size before after size status =
    AreHandedOver (entry_there bytes places.0).payload key_before key_after key_size
    (entry_document (entry_there bytes places.1)) before after size status
IsMemberHandedOver bytes (Ok None) key_before key_after key_size before after size status =
    IsRefused none key_before key_after key_size status × IsRefused none before after size status
IsMemberHandedOver bytes (Err e) key_before key_after key_size before after size status =
    IsRefused (code e) key_before key_after key_size status
    × IsRefused (code e) before after size status

-- In the document of an array the position is that of the item's entry, by index; in other
-- documents there is none.
abbrev pub IsItemPlace : List ℕ → Tree → ℕ → Result (Option Entry) Error → Type 0
IsItemPlace b (array ts) index found =
    (entries : List Code)
    × (IsArrayOfEntries b ts entries
    × ((o : Option Entry)
    × ((found ≡ Ok o) × (option_map (entry_there b) o ≡ slice_get entries index))))
IsItemPlace b t index found = found ≡ Ok None

-- The key and the value's entry at the positions of a member.
abbrev pub member_there : List ℕ → Entry × Entry → List ℕ × Code
member_there b places = ((entry_there b places.0).payload, entry_there b places.1)

-- In the document of an object the positions are those of the member's key and value, by index; in
-- other documents there are none.
abbrev pub AreMemberPlaces : List ℕ → Tree → ℕ
    → Result (Option (Entry × Entry)) Error → Type 0
AreMemberPlaces b (object ps) index found =
    (members : List (List ℕ × Code))
    × (IsObjectOfEntries b ps members
    × ((o : Option (Entry × Entry))
    × ((found ≡ Ok o) × (option_map (member_there b) o ≡ slice_get members index))))
AreMemberPlaces b t index found = found ≡ Ok None

-- All entries of an object: those of its keys, followed by those of its values.
abbrev pub all_entries : List (List ℕ × Code) → List Code
all_entries members = key_codes (keys_of members) ++ values_of members

-- The position is that of the part with this number: an array's item, or one of an object's
-- entries.
abbrev pub IsPartPlace : List ℕ → Tree → ℕ → Result (Option Entry) Error → Type 0
IsPartPlace b (object ps) number found =
    (members : List (List ℕ × Code))
    × (IsObjectOfEntries b ps members
    × ((o : Option Entry)
    × ((found ≡ Ok o)
    × (option_map (entry_there b) o ≡ slice_get (all_entries members) number))))
IsPartPlace b t number found = IsItemPlace b t number found

-- In the document of an object the position is that of the value's entry at the key that equals the
-- name; in other documents there is none.
abbrev pub IsValuePlace : List ℕ → Tree → List ℕ → Result (Option Entry) Error → Type 0
IsValuePlace b (object ps) name found =
    (members : List (List ℕ × Code))
    × (IsObjectOfEntries b ps members
    × ((o : Option Entry)
    × ((found ≡ Ok o)
    × (option_map (entry_there b) o ≡ find_entry (is_name name) (length name) members))))
IsValuePlace b t name found = found ≡ Ok None
