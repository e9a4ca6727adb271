-- The children of an array or object, one after another, and where a walk over them has come.
use Rattle.std.specs.Prelude.{◌≡◌, ℕ, suc, ◌+◌, ◌*◌, ◌^◌, ◌<◌, ◌==◌, nat_le, if◌then◌else◌}
use Rattle.std.specs.Prelude.{Bool, true, false, List, Option, Some, None, option_map}
use Rattle.std.specs.Prelude.{Result, Ok, Err, IfOk, IfSome}
use Rattle.jsonb_value.specs.declared.error.Error.{Error}
use Rattle.jsonb_codec.specs.declared.constants.TheConstants.{ARRAY_CONTAINER_TAG}
use Rattle.jsonb_codec.specs.declared.constants.TheConstants.{OBJECT_CONTAINER_TAG}
use Rattle.jsonb_codec.specs.WordBytes.{header_at}
use Rattle.jsonb.specs.Entry.{IsEntryIn, placed_at}
use Rattle.jsonb.specs.Entries.{payloads_end}
use Rattle.jsonb.specs.Prefix.{some_entry}
use Rattle.jsonb.specs.Steps.{◌>>=◌}
use Rattle.jsonb.specs.declared.entries.Entry.{Entry}
use Rattle.kohiblad.specs.declared.children.Child.{Child}
use Rattle.kohiblad.specs.declared.children.KohibladCursor.{KohibladCursor}
use Rattle.kohiblad.specs.declared.children.ChildLayout.{ChildLayout}
use Rattle.kohiblad.specs.declared.places.KohibladPlace.{KohibladPlace}
use Rattle.kohiblad.specs.Places.{part_in, place_answer}
use Rattle.kohiblad.specs.Status.{code, none}

-- How the children of an array or object are laid out. `None` for a scalar.
abbrev pub layout_under : ℕ × ℕ → Option ChildLayout
layout_under header =
    if header.0 == ARRAY_CONTAINER_TAG then Some (record { keyed = false; count = header.1 })
    else if header.0 == OBJECT_CONTAINER_TAG then Some (record { keyed = true; count = header.1 })
    else None

-- The layout of the children that the bytes hold.
abbrev pub layout_in : List ℕ → Result (Option ChildLayout) Error
layout_in bytes = header_at bytes 0 >>= λ header. Ok (layout_under header)

-- The number of the first value's part, which comes after all keys.
abbrev pub first_value : ChildLayout → ℕ
first_value layout = if layout.keyed then layout.count else 0

-- The offset of the payload of a part: where the payloads before it end. `InvalidEOF` if the word
-- of one of them is cut off.
abbrev pub payload_start : List ℕ → ChildLayout → ℕ → Result ℕ Error
payload_start bytes layout part =
    payloads_end bytes part 4 (4 + 4 * (first_value layout + layout.count))

-- The offset of the payload of a key; 0 if there are no keys.
abbrev pub key_offset : List ℕ → ChildLayout → ℕ → Result ℕ Error
key_offset bytes layout index = if layout.keyed then payload_start bytes layout index else Ok 0

-- The cursor before the child at an index, given the layout.
abbrev pub cursor_among : List ℕ → ℕ → Option ChildLayout → Result (Option KohibladCursor) Error
cursor_among bytes index None = Ok None
cursor_among bytes index (Some layout) = do
  key ← key_offset bytes layout index
  value ← payload_start bytes layout (first_value layout + index)
  Ok (Some (record { index = index; key = key; value = value }))

-- The cursor before the child at an index. `None` if the bytes are neither an array nor an object.
abbrev pub cursor_at : List ℕ → ℕ → Result (Option KohibladCursor) Error
cursor_at bytes index = layout_in bytes >>= cursor_among bytes index

-- The walk is begun: the cursor is before the first child; or it is as before, and the status says
-- why.
abbrev pub IsBegun : Result (Option KohibladCursor) Error → KohibladCursor → KohibladCursor → ℕ
    → Type 0
IsBegun (Ok (Some first)) before after status = (status ≡ 0) × (after ≡ first)
IsBegun (Ok None) before after status = (status ≡ none) × (after ≡ before)
IsBegun (Err e) before after status = (status ≡ code e) × (after ≡ before)

-- A child with this value, and with this key if there are keys; or the first error.
abbrev pub child_of : Bool → Result (Option Entry) Error → Result (Option Entry) Error
    → Result (Option Child) Error
child_of keyed first second = do
  key ← (if keyed then first else Ok None)
  value ← second
  Ok (option_map (λ (entry : Entry). record { key = key; value = entry }) value)

-- The child at an index, by the parts of the bytes. `None` after the last child.
abbrev pub numbered_among : List ℕ → ℕ → Option ChildLayout → Result (Option Child) Error
numbered_among bytes index None = Ok None
numbered_among bytes index (Some layout) =
    if nat_le layout.count index then Ok None
    else child_of layout.keyed (part_in bytes index) (part_in bytes (first_value layout + index))

-- The child at an index.
abbrev pub numbered_child : List ℕ → ℕ → Result (Option Child) Error
numbered_child bytes index = layout_in bytes >>= numbered_among bytes index

-- The entry of a part whose payload is said to begin at `start`.
abbrev pub part_at_cursor : List ℕ → ℕ → ℕ → Result (Option Entry) Error
part_at_cursor bytes part start = some_entry (placed_at bytes (4 + 4 * part) start)

-- The child at any cursor: its entry words are found by the index, its payloads by the offsets in
-- the cursor. `None` after the last child.
abbrev pub child_among : List ℕ → KohibladCursor → Option ChildLayout → Result (Option Child) Error
child_among bytes cursor None = Ok None
child_among bytes cursor (Some layout) =
    if nat_le layout.count cursor.index then Ok None
    else child_of layout.keyed (part_at_cursor bytes cursor.index cursor.key)
    (part_at_cursor bytes (first_value layout + cursor.index) cursor.value)

-- The child at any cursor.
abbrev pub child_at_cursor : List ℕ → KohibladCursor → Result (Option Child) Error
child_at_cursor bytes cursor = layout_in bytes >>= child_among bytes cursor

-- The offset at which the payload of an entry ends.
abbrev pub end_of : Entry → ℕ
end_of entry = entry.start + entry.length

-- The offset at which a key ends, or `before` if there is none.
abbrev pub key_end : Option Entry → ℕ → ℕ
key_end (Some key) before = end_of key
key_end None before = before

-- The cursor after a child that was found, or the unchanged cursor if none was.
abbrev pub cursor_after : Result (Option Child) Error → KohibladCursor → KohibladCursor
cursor_after (Ok (Some child)) cursor = record {
  index = suc cursor.index;
  key = key_end child.key cursor.key;
  value = end_of child.value;
}
cursor_after (Ok None) cursor = cursor
cursor_after (Err e) cursor = cursor

-- The numbers of that cursor are of 64 bits.
abbrev pub CanMove : Result (Option Child) Error → KohibladCursor → Type 0
CanMove found cursor = IfOk found (λ o. IfSome o (λ child.
    (suc cursor.index < 2 ^ 64)
    × ((key_end child.key 0 < 2 ^ 64) × (end_of child.value < 2 ^ 64))))

-- The entries of a child that was found satisfy `IsEntryIn`.
abbrev pub IsChildWithin : List ℕ → Result (Option Child) Error → Type 0
IsChildWithin bytes found = IfOk found (λ o. IfSome o (λ child.
    IfSome child.key (IsEntryIn bytes) × IsEntryIn bytes child.value))

-- The position of a child's key as C receives it: `NONE` for an array's item.
abbrev pub key_answer : Result (Option Child) Error → KohibladPlace
key_answer (Ok (Some child)) = place_answer (Ok child.key)
key_answer (Ok None) = place_answer (Ok None)
key_answer (Err e) = place_answer (Err e)

-- The position of a child's value as C receives it.
abbrev pub value_answer : Result (Option Child) Error → KohibladPlace
value_answer (Ok (Some child)) = place_answer (Ok (Some child.value))
value_answer (Ok None) = place_answer (Ok None)
value_answer (Err e) = place_answer (Err e)
