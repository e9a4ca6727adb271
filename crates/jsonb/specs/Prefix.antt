-- Looking up a key where only a prefix of the bytes is at hand.
use Rattle.std.specs.Prelude.{◌≡◌, ℕ, zero, suc, ◌+◌, ◌*◌, ◌<◌, ◌≤◌, nat_eq, nat_lt}
use Rattle.std.specs.Prelude.{if◌then◌else◌, Bool, List, [], ◌∷◌, length, Option, Some, None}
use Rattle.std.specs.Prelude.{IfSome, Result, Ok, Err, min}
use Rattle.std.specs.Cmp.Lexicographic.{pointwise}
use Rattle.jsonb_value.specs.declared.error.Error.{Error}
use Rattle.jsonb_value.specs.Tree.{Tree}
use Rattle.jsonb_codec.specs.declared.constants.TheConstants.{ARRAY_CONTAINER_TAG}
use Rattle.jsonb_codec.specs.declared.constants.TheConstants.{OBJECT_CONTAINER_TAG}
use Rattle.jsonb.specs.declared.entries.Entry.{Entry}
use Rattle.jsonb.specs.declared.lookup.prefix.Progress.{Progress}
use Rattle.jsonb.specs.declared.lookup.prefix.Progress.TheVariants as progress
use Rattle.jsonb.specs.Entries.{payloads_end}
use Rattle.jsonb.specs.Entry.{entry_there, placed_at}
use Rattle.jsonb.specs.Lookup.{FindsEntry}
use Rattle.jsonb.specs.Parts.{part_start}
use Rattle.jsonb.specs.Steps.{◌>>=◌}
use Rattle.jsonb.specs.StoredEntries.{IsEntryAt}
use Rattle.jsonb.specs.Walk.{count_under}

-- The key equals the name.
abbrev pub is_name : List ℕ → List ℕ → Bool
is_name name = pointwise nat_eq name

-- What a look-up of the name finds under this header: the header's error, nothing in what is no
-- object, or what a search of its pairs finds.
abbrev pub FindsUnder : List ℕ → List ℕ → Result (Option ℕ) Error → Result (Option Entry) Error
    → Type 0
FindsUnder name b (Err e) found = found ≡ Err e
FindsUnder name b (Ok None) found = found ≡ Ok None
FindsUnder name b (Ok (Some n)) found = (reads : ℕ)
    × FindsEntry (λ key answer. answer ≡ is_name name key) (length name) b n found reads

-- What a look-up of the name finds in any bytes: the entry of its value, with its place. The payload
-- is not read.
abbrev pub FindsPlace : List ℕ → List ℕ → Result (Option Entry) Error → Type 0
FindsPlace name b found = FindsUnder name b (count_under b OBJECT_CONTAINER_TAG) found

-- Where the entry words end in an object, and where its keys do.
abbrev pub stops_under : List ℕ → Result (Option ℕ) Error → List ℕ
stops_under b (Ok (Some n)) = (4 + 8 * n) ∷ part_start b n n ∷ []
stops_under b header = []

-- Where the parts end that a look-up of a key reads one after the other: the header, and in an object
-- all entry words, and then all keys.
abbrev pub key_stops : List ℕ → List ℕ
key_stops b = 4 ∷ stops_under b (count_under b OBJECT_CONTAINER_TAG)

-- The first of these ends that is past so many bytes at hand; the end of the bytes stands for those
-- past it.
abbrev pub next_stop : ℕ → ℕ → List ℕ → Option ℕ
next_stop hand len [] = None
next_stop hand len (stop ∷ stops) =
    if nat_lt hand (min stop len) then Some (min stop len) else next_stop hand len stops

-- A look-up that has come to its end.
abbrev pub progress_of : Result (Option Entry) Error → Result Progress Error
progress_of (Ok (Some entry)) = Ok (progress.Found entry)
progress_of (Ok None) = Ok progress.Absent
progress_of (Err e) = Err e

-- More bytes are needed, up to this end; or where none are, this is what the look-up finds.
abbrev pub IsProgress : Option ℕ → (Result (Option Entry) Error → Type 0) → Result Progress Error
    → Type 0
IsProgress (Some end) Finds result = result ≡ Ok (progress.Needs end)
IsProgress None Finds result =
    (found : Result (Option Entry) Error) × (Finds found × (result ≡ progress_of found))

-- How far a look-up of the name in b comes with so many of its bytes at hand.
abbrev pub IsKeyProgress : List ℕ → List ℕ → ℕ → Result Progress Error → Type 0
IsKeyProgress name b hand result =
    IsProgress (next_stop hand (length b) (key_stops b)) (FindsPlace name b) result

-- If all that is needed is fetched each time, so many times are enough.
abbrev pub AsksAtMost : ℕ → ℕ → ℕ → List ℕ → Type 0
AsksAtMost zero hand len stops = next_stop hand len stops ≡ None
AsksAtMost (suc times) hand len stops =
    IfSome (next_stop hand len stops) (λ end. AsksAtMost times end len stops)

-- In a document the entry is that of the value at the key, or there is none; or bytes are needed that
-- are not at hand and not past the end.
abbrev pub IsFoundInDocument : List ℕ → List ℕ → Tree → ℕ → Result Progress Error → Type 0
IsFoundInDocument name b t hand (Ok (progress.Needs end)) = (hand < end) × (end ≤ length b)
IsFoundInDocument name b t hand (Ok (progress.Found entry)) =
    IsEntryAt (is_name name) (length name) b t (Some (entry_there b entry))
IsFoundInDocument name b t hand (Ok progress.Absent) =
    IsEntryAt (is_name name) (length name) b t None
IsFoundInDocument name b t hand (Err e) = ⊥

-- An entry that was read, or the error.
abbrev pub some_entry : Result Entry Error → Result (Option Entry) Error
some_entry (Ok entry) = Ok (Some entry)
some_entry (Err e) = Err e

-- The entry of an item among n: its payload begins where those before it end.
abbrev pub item_entry : List ℕ → ℕ → ℕ → Result Entry Error
item_entry b index n = payloads_end b index 4 (4 + 4 * n) >>= placed_at b (4 + 4 * index)

-- The entry of the item at an index under this header; none if it is not that of an array, or has
-- no such item.
abbrev pub item_below : List ℕ → ℕ → Result (Option ℕ) Error → Result (Option Entry) Error
item_below b index (Err e) = Err e
item_below b index (Ok None) = Ok None
item_below b index (Ok (Some n)) =
    if nat_lt index n then some_entry (item_entry b index n) else Ok None

-- Where the entry word of the item at an index ends, under this header.
abbrev pub item_stops : ℕ → Result (Option ℕ) Error → List ℕ
item_stops index (Ok (Some n)) = if nat_lt index n then (8 + 4 * index) ∷ [] else []
item_stops index header = []

-- Where the parts end that a look-up of an index reads one after the other: the header, and in an
-- array that has such an item the entry words up to its own.
abbrev pub index_stops : ℕ → List ℕ → List ℕ
index_stops index b = 4 ∷ item_stops index (count_under b ARRAY_CONTAINER_TAG)

-- How far a look-up of the index in b comes with so many of its bytes at hand.
abbrev pub IsIndexProgress : ℕ → List ℕ → ℕ → Result Progress Error → Type 0
IsIndexProgress index b hand result = IsProgress (next_stop hand (length b) (index_stops index b))
    (λ found. found ≡ item_below b index (count_under b ARRAY_CONTAINER_TAG)) result
