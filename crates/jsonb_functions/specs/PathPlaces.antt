-- The places of the values to which paths lead.
use Rattle.std.specs.Prelude.{◌≡◌, ⊤, ℕ, ◌+◌, ◌-◌, ◌==◌, ◌≤◌, if◌then◌else◌, nat_eq, Bool, true}
use Rattle.std.specs.Prelude.{false, List, [], ◌∷◌, length, map, flat_map, take, Option, None, Some}
use Rattle.std.specs.Prelude.{option_map, option_to_list, Result, Ok, Err}
use Rattle.std.specs.Cmp.Lexicographic.{pointwise}
use Rattle.jsonb_value.specs.declared.error.Error.{Error}
use Rattle.jsonb_value.specs.Tree.{Tree}
use Rattle.jsonb_codec.specs.declared.constants.TheConstants.{ARRAY_CONTAINER_TAG}
use Rattle.jsonb_codec.specs.declared.constants.TheConstants.{OBJECT_CONTAINER_TAG, CONTAINER_TAG}
use Rattle.jsonb_codec.specs.Parts.{IsPayloadOf}
use Rattle.jsonb_codec.specs.WordBytes.{header_at}
use Rattle.jsonb.specs.Children.{Pairwise}
use Rattle.jsonb.specs.Entry.{entry_there, placed_at}
use Rattle.jsonb.specs.Entries.{Run, item_run, key_run, left_after}
use Rattle.jsonb.specs.Entries.{value_run}
use Rattle.jsonb.specs.EntryTrees.{entry_tree}
use Rattle.jsonb.specs.Node.{node_view}
use Rattle.jsonb.specs.StoredEntries.{entry_item}
use Rattle.jsonb.specs.declared.entries.Entry.{Entry}
use Rattle.jsonb.specs.declared.node.Node.{Node}
use Rattle.jsonb_functions.specs.Filter.{holds}
use Rattle.jsonb_functions.specs.Path.{item_place}
use Rattle.jsonb_functions.specs.Selected.{items_before, items_through, step_at}
use Rattle.jsonb_functions.specs.declared.path.Step.{Step}
use Rattle.jsonb_functions.specs.declared.path.Step.TheVariants as steps
use Rattle.jsonb_functions.specs.declared.selection.Bound.{Bound}
use Rattle.jsonb_functions.specs.declared.selection.Bound.TheVariants.{FromStart, FromEnd}
use Rattle.jsonb_functions.specs.declared.selection.Selector.{Selector}
use Rattle.jsonb_functions.specs.declared.selection.Selector.TheVariants as selectors

-- The place does not run past the end of the bytes.
abbrev pub IsPlaceWithin : List ℕ → Entry → Type 0
IsPlaceWithin bytes place = place.start + place.length ≤ length bytes

-- The entries that were read, up to the first error.
abbrev pub read_entries : List (Result Entry Error) → List Entry
read_entries [] = []
read_entries (Ok entry ∷ others) = entry ∷ read_entries others
read_entries (Err e ∷ others) = []

abbrev pub read_or_none : Result (List (Result Entry Error)) Error → List Entry
read_or_none (Ok entries) = read_entries entries
read_or_none (Err e) = []

-- The entries after so many; none if the word of one of those is cut off.
abbrev pub entries_after : ℕ → List (Result Entry Error) → List Entry
entries_after n entries = read_or_none (left_after n entries)

-- The entries of a run, if there is one.
abbrev pub run_entries : Result Run Error → List Entry
run_entries (Ok run) = read_entries run.entries
run_entries (Err e) = []

-- The first entry, if there is one.
abbrev pub first_entry : List Entry → Option Entry
first_entry [] = None
first_entry (entry ∷ entries) = Some entry

-- The value at the first of these keys that equals the name.
abbrev pub named_entry : List ℕ → List ℕ → List Entry → List Entry
    → Option Entry
named_entry name bytes [] values = None
named_entry name bytes (key ∷ keys) [] = None
named_entry name bytes (key ∷ keys) (value ∷ values) =
    if pointwise nat_eq name (entry_there bytes key).payload then Some value
    else named_entry name bytes keys values

-- The header of the array or object at a place; none at the place of a scalar.
abbrev pub header_or_none : Result (ℕ × ℕ) Error → Option (ℕ × ℕ)
header_or_none (Ok header) = Some header
header_or_none (Err e) = None

abbrev pub header_there : List ℕ → Entry → Option (ℕ × ℕ)
header_there bytes place =
    if place.type_code == CONTAINER_TAG
    then header_or_none (header_at (entry_there bytes place).payload 0)
    else None

-- The entry of an item of an array of n items, given before which one it is, and whether it is one
-- of them.
abbrev pub nth_entry : Option (ℕ × Bool) → List ℕ → ℕ → Option Entry
nth_entry None bytes n = None
nth_entry (Some (before, true)) bytes n =
    first_entry (entries_after before (item_run bytes n).entries)
nth_entry (Some (before, false)) bytes n = None

-- The entry of the value of a key of an object of n pairs.
abbrev pub member_entry : Step → List ℕ → ℕ → Option Entry
member_entry (steps.Key k) bytes n = named_entry k.now bytes
    (read_entries (key_run bytes n).entries) (run_entries (value_run bytes n))
member_entry s bytes n = None

-- The entry of the child to which a step leads in an array or object with this header.
abbrev pub step_entry : Step → List ℕ → Option (ℕ × ℕ) → Option Entry
step_entry s bytes None = None
step_entry s bytes (Some header) =
    if header.0 == ARRAY_CONTAINER_TAG then nth_entry (item_place s header.1) bytes header.1
    else if header.0 == OBJECT_CONTAINER_TAG then member_entry s bytes header.1
    else None

-- The entries of the items from one bound to another, in an array with this header.
abbrev pub range_entries : Bound → Bound → List ℕ → Option (ℕ × ℕ) → List Entry
range_entries first last bytes None = []
range_entries first last bytes (Some header) =
    if header.0 == ARRAY_CONTAINER_TAG
    then take (items_through last header.1 - items_before first header.1)
    (entries_after (items_before first header.1) (item_run bytes header.1).entries)
    else []

-- The entries of the values in an object with this header.
abbrev pub value_entries : List ℕ → Option (ℕ × ℕ) → List Entry
value_entries bytes None = []
value_entries bytes (Some header) =
    if header.0 == OBJECT_CONTAINER_TAG then run_entries (value_run bytes header.1) else []

-- The place of an entry, in the bytes in which its array or object begins at `start`.
abbrev pub moved : ℕ → Entry → Entry
moved start entry = record {
  type_code = entry.type_code;
  start = start + entry.start;
  length = entry.length;
}

-- The place of the child to which a step leads from a place, if there is one.
abbrev pub step_place : Step → List ℕ → Entry → Option Entry
step_place s bytes place = option_map (moved place.start)
    (step_entry s (entry_there bytes place).payload (header_there bytes place))

-- The places of the items from one bound to another, and those of the values of members.
abbrev pub range_places : Bound → Bound → List ℕ → Entry → List Entry
range_places first last bytes place = map (moved place.start)
    (range_entries first last (entry_there bytes place).payload (header_there bytes place))

abbrev pub value_places : List ℕ → Entry → List Entry
value_places bytes place = map (moved place.start)
    (value_entries (entry_there bytes place).payload (header_there bytes place))

-- The places of the items at indexes, in the order of these.
abbrev pub listed_places : List ℕ → Entry → List Bound → List Entry
listed_places bytes place indexes =
    flat_map (λ index. option_to_list (step_place (step_at index) bytes place)) indexes

-- The tree of the entry at a place.
abbrev pub tree_there : List ℕ → Entry → Tree
tree_there bytes place = entry_tree (entry_there bytes place)

-- The places to which a selector leads from a place: those of children, in the order in which they
-- are stored, or of the indexes; or that place itself, if the condition of a filter holds there.
abbrev pub places_at : Selector → List ℕ → Entry → List Entry
places_at (selectors.Step s) bytes place = option_to_list (step_place s bytes place)
places_at selectors.AllItems bytes place = range_places (FromStart 0) (FromEnd 0) bytes place
places_at selectors.AllMembers bytes place = value_places bytes place
places_at (selectors.Range first last) bytes place = range_places first last bytes place
places_at (selectors.Indexes indexes) bytes place = listed_places bytes place indexes.items
places_at (selectors.Filter condition) bytes place =
    if holds condition (tree_there bytes place) then place ∷ [] else []

-- The places to which a path leads from a place, in the order in which they are stored.
abbrev pub selected_from : List Selector → List ℕ → Entry → List Entry
selected_from [] bytes place = place ∷ []
selected_from (selector ∷ path) bytes place =
    flat_map (λ next. selected_from path bytes next) (places_at selector bytes place)

-- The place of a whole array or object, or that of a scalar's payload after its two words.
abbrev pub whole_under : List ℕ → Result (ℕ × ℕ) Error → Result Entry Error
whole_under bytes (Err e) = Err e
whole_under bytes (Ok header) =
    if header.0 == ARRAY_CONTAINER_TAG
    then Ok (record { type_code = CONTAINER_TAG; start = 0; length = length bytes })
    else if header.0 == OBJECT_CONTAINER_TAG
    then Ok (record { type_code = CONTAINER_TAG; start = 0; length = length bytes })
    else placed_at bytes 4 8

abbrev pub whole_place : List ℕ → Result Entry Error
whole_place bytes = whole_under bytes (header_at bytes 0)

-- The places to which a path leads from the place of the whole document.
abbrev pub selected_in : List Selector → List ℕ → Result Entry Error → List Entry
selected_in path bytes (Ok place) = selected_from path bytes place
selected_in path bytes (Err e) = []

-- The places of the values that a path selects in a document, in the order in which they are
-- stored.
abbrev pub selected_places : List Selector → List ℕ → List Entry
selected_places path bytes = selected_in path bytes (whole_place bytes)

-- The values have the types and payloads of the entries at these places, one each.
abbrev pub AreItemsAt : List ℕ → List Entry → List Node → Type 0
AreItemsAt bytes places nodes =
    map (λ place. entry_item (entry_there bytes place)) places
    ≡ map (λ node. Ok (node_view node)) nodes

-- What a function answers at a place, if there is one.
abbrev pub at_place : Option Entry → (Entry → Option Entry) → Option Entry
at_place None f = None
at_place (Some place) f = f place

-- The place to which a path leads from a place, if it leads to a value.
abbrev pub place_from : List Step → List ℕ → Entry → Option Entry
place_from [] bytes place = Some place
place_from (s ∷ path) bytes place =
    at_place (step_place s bytes place) (λ child. place_from path bytes child)

-- The place to which a path leads from the place of the whole document.
abbrev pub path_place_in : List Step → List ℕ → Result Entry Error → Option Entry
path_place_in path bytes (Ok place) = place_from path bytes place
path_place_in path bytes (Err e) = None

-- The place of the value at the end of a path in a document, if the path leads to one.
abbrev pub path_place : List Step → List ℕ → Option Entry
path_place path bytes = path_place_in path bytes (whole_place bytes)

-- The entry at the place holds the tree.
abbrev pub HoldsTree : List ℕ → Entry → Tree → Type 0
HoldsTree bytes place t = IsPayloadOf place.type_code (entry_there bytes place).payload t

-- The entries at the places hold these trees, one each.
abbrev pub HoldTrees : List ℕ → List Entry → List Tree → Type 0
HoldTrees bytes places ts = Pairwise (HoldsTree bytes) places ts

-- The entry at the place holds the tree, and there is a place exactly if there is a tree.
abbrev pub HoldsFound : List ℕ → Option Entry → Option Tree → Type 0
HoldsFound bytes (Some place) (Some t) = HoldsTree bytes place t
HoldsFound bytes (Some place) None = ⊥
HoldsFound bytes None (Some t) = ⊥
HoldsFound bytes None None = ⊤
