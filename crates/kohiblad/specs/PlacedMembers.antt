-- The members of an object in its bytes: their keys, and the places of their values.
use Rattle.std.specs.Prelude.{◌≡◌, ◌==◌, ℕ, List, [], ◌∷◌, Bool, true, Option, None, Some, IfSome}
use Rattle.std.specs.Prelude.{⊤, ◌&&◌, ◌-◌, ◌≤◌, Result, Ok, Err, if◌then◌else◌, drop, length, map}
use Rattle.std.specs.Prelude.{nat_eq}
use Rattle.std.specs.Cmp.Lexicographic.{pointwise, slice_cmp}
use Rattle.std.specs.declared.cmp.Ordering.TheVariants.{Less}
use Rattle.std.specs.Ordering.{is_lt, nat_cmp}
use Rattle.jsonb_value.specs.declared.error.Error.{Error}
use Rattle.jsonb_codec.specs.declared.constants.TheConstants.{OBJECT_CONTAINER_TAG}
use Rattle.jsonb_codec.specs.WordBytes.{header_at}
use Rattle.jsonb.specs.Entry.{IsEntryIn, entry_there}
use Rattle.jsonb.specs.Entries.{key_run, value_run}
use Rattle.jsonb.specs.declared.entries.Entry.{Entry}
use Rattle.jsonb_functions.specs.PathPlaces.{first_entry, named_entry, read_entries, run_entries}
use Rattle.kohiblad.specs.declared.placed_members.PlacedMembers.{PlacedMembers}

-- The entries of the keys that are left: that of the first member, and those after it. No first one
-- means that none is left.
abbrev pub keys_from : Option Entry → List Entry → List Entry
keys_from None keys = []
keys_from (Some first) keys = first ∷ keys

abbrev pub keys_left : PlacedMembers → List Entry
keys_left left = keys_from left.first (read_entries left.keys.entries)

-- The entries of the values of the members that are left. Those of members that were passed may be
-- before them: there is a value for each key, so the last ones count.
abbrev pub values_left : PlacedMembers → List Entry
values_left left = drop (length left.values.entries - length (keys_left left))
    (read_entries left.values.entries)

-- The entries are in these bytes.
pub record AreMembersIn (bytes : List ℕ) (left : PlacedMembers) : Type 0 where
  pub bytes_are : left.bytes.now ≡ bytes
  pub keys_in : left.keys.bytes ≡ bytes
  pub values_in : left.values.bytes ≡ bytes
  pub first_in : IfSome left.first (IsEntryIn bytes)

-- The place of the value of a name among members that are left.
abbrev pub place_among : List ℕ → List ℕ → PlacedMembers → Option Entry
place_among name bytes left = named_entry name bytes (keys_left left) (values_left left)

-- The place of the first of these values, if the first of the keys is the name.
abbrev pub first_named : List ℕ → List ℕ → List Entry → List Entry → Option Entry
first_named name bytes [] values = None
first_named name bytes (key ∷ keys) values =
    if pointwise nat_eq (entry_there bytes key).payload name then first_entry values else None

-- The place of the value of the member after so many others, if its key is the name.
abbrev pub place_after : List ℕ → List ℕ → ℕ → PlacedMembers → Option Entry
place_after name bytes passed left =
    first_named name bytes (drop passed (keys_left left)) (drop passed (values_left left))

-- The keys ascend by their bytes, and the first is greater than `before`, if there is one.
abbrev pub KeysAscend : List ℕ → Option (List ℕ) → List Entry → Type 0
KeysAscend bytes before [] = ⊤
KeysAscend bytes before (key ∷ keys) =
    IfSome before (λ b. slice_cmp nat_cmp b (entry_there bytes key).payload ≡ Less)
    × KeysAscend bytes (Some (entry_there bytes key).payload) keys

-- All the entries can be read.
abbrev pub AreAllRead : List (Result Entry Error) → Type 0
AreAllRead entries = entries ≡ map Ok (read_entries entries)

-- The members that are left are whole, as those of a document are: all entries can be read, the
-- keys ascend, each has a value, and none is left without a first one.
pub record AreWhole (bytes : List ℕ) (left : PlacedMembers) : Type 0 where
  pub keys_read : AreAllRead left.keys.entries
  pub values_read : AreAllRead left.values.entries
  pub ascend : KeysAscend bytes None (keys_left left)
  pub valued : length (keys_left left) ≤ length left.values.entries
  pub ended : left.first ≡ None → left.keys.entries ≡ []

-- The members that are left are those without the first `count`.
pub record ArePassed (bytes : List ℕ) (count : ℕ) (before after : PlacedMembers) : Type 0 where
  pub whole : AreWhole bytes after
  pub keys : keys_left after ≡ drop count (keys_left before)
  pub values : values_left after ≡ drop count (values_left before)

-- The place of the value of a name in bytes with this header; none but in an object.
abbrev pub name_under : List ℕ → List ℕ → Result (ℕ × ℕ) Error → Option Entry
name_under name bytes (Err e) = None
name_under name bytes (Ok header) =
    if header.0 == OBJECT_CONTAINER_TAG
    then named_entry name bytes (read_entries (key_run bytes header.1).entries)
    (run_entries (value_run bytes header.1))
    else None

-- The place of the value of a name in bytes.
abbrev pub name_place : List ℕ → List ℕ → Option Entry
name_place name bytes = name_under name bytes (header_at bytes 0)

-- Names ascend by their bytes, and the first is greater than `before`, if there is one.
abbrev pub names_ascend : Option (List ℕ) → List (List ℕ) → Bool
names_ascend before [] = true
names_ascend None (name ∷ names) = names_ascend (Some name) names
names_ascend (Some before) (name ∷ names) =
    is_lt (slice_cmp nat_cmp before name) && names_ascend (Some name) names
