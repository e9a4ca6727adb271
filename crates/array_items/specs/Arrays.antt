-- The items of an array, one after another: what the next read finds, the item, and what is left.
use Rattle.std.specs.Prelude.{◌≡◌, ◌==◌, ◌||◌, ℕ, Bool, false, List, [], ◌∷◌}
use Rattle.std.specs.Prelude.{if◌then◌else◌, Option, None, Some, ⊤}
use Rattle.array_items.specs.Blanks.{first_byte, trimmed}
use Rattle.array_items.specs.Values.{left_from, value_from}
use Rattle.array_items.specs.declared.array.ArrayFault.TheVariants.{NoArray, NoItem, NoComma}
use Rattle.array_items.specs.declared.array.ArrayFault.TheVariants.{NoEnd, AfterEnd}
use Rattle.array_items.specs.declared.array.FoundItem.{FoundItem}
use Rattle.array_items.specs.declared.array.FoundItem.TheVariants.{Item, End, Fault}
use Rattle.array_items.specs.declared.value.Place.TheVariants.{Before}

-- What a read finds, the bytes of the item, and the bytes that are left.
pub record ItemRead : Type 0 where
  pub found : FoundItem
  pub item : List ℕ
  pub left : List ℕ

-- Whether a byte ends an item: a comma or `]`.
abbrev pub ends_item : ℕ → Bool
ends_item b = b == 44 || b == 93

-- Nothing was read of an item.
abbrev pub nothing : FoundItem → List ℕ → ItemRead
nothing found left = record { found = found; item = []; left = left }

-- After `]` white space alone may come.
abbrev pub end_read : List ℕ → ItemRead
end_read [] = nothing End []
end_read (b ∷ bytes) = nothing (Fault AfterEnd) (b ∷ bytes)

abbrev pub item_at_end : List ℕ → ItemRead
item_at_end bytes = end_read (trimmed bytes)

-- After an item a comma or `]` comes, which is left.
abbrev pub found_after : List ℕ → FoundItem
found_after [] = Fault NoEnd
found_after (b ∷ bytes) = if ends_item b then Item else Fault NoComma

-- An item, by what follows it.
abbrev pub item_before : List ℕ → List ℕ → ItemRead
item_before item left = record { found = found_after left; item = item; left = left }

-- An item begins with any other byte.
abbrev pub next_read : List ℕ → ItemRead
next_read [] = nothing (Fault NoEnd) []
next_read (b ∷ bytes) =
    if ends_item b then nothing (Fault NoItem) (b ∷ bytes)
    else item_before (value_from Before (b ∷ bytes)) (trimmed (left_from Before (b ∷ bytes)))

abbrev pub item_at_next : List ℕ → ItemRead
item_at_next bytes = next_read (trimmed bytes)

-- After `[` there may be no item.
abbrev pub first_read : List ℕ → ItemRead
first_read [] = nothing (Fault NoEnd) []
first_read (b ∷ bytes) = if b == 93 then item_at_end bytes else next_read (b ∷ bytes)

abbrev pub item_at_first : List ℕ → ItemRead
item_at_first bytes = first_read (trimmed bytes)

-- An item comes after `[`, or after a comma, and none after `]`.
abbrev pub mark_read : List ℕ → ItemRead
mark_read [] = nothing (Fault NoArray) []
mark_read (b ∷ bytes) =
    if b == 91 then item_at_first bytes
    else if b == 44 then item_at_next bytes
    else if b == 93 then item_at_end bytes
    else nothing (Fault NoArray) bytes

abbrev pub item_in : List ℕ → ItemRead
item_in bytes = mark_read (trimmed bytes)

-- A read found this, by what such bytes say.
abbrev pub ReadsItem : (List ℕ → ItemRead) → Option (List ℕ) → Option (List ℕ) → List ℕ
    → FoundItem → Type 0
ReadsItem read None new item found = ⊤
ReadsItem read (Some bytes) None item found = ⊥
ReadsItem read (Some bytes) (Some left) item found =
    read bytes ≡ record { found = found; item = item; left = left }

-- Whether the first byte is `[`.
abbrev pub is_array_start : Option ℕ → Bool
is_array_start None = false
is_array_start (Some b) = b == 91

-- White space was passed over, after which an array begins or does not.
abbrev pub BeginsArray : Option (List ℕ) → Option (List ℕ) → Bool → Type 0
BeginsArray None new is = ⊤
BeginsArray (Some bytes) None is = ⊥
BeginsArray (Some bytes) (Some left) is =
    (is ≡ is_array_start (first_byte (trimmed bytes))) × (left ≡ trimmed bytes)
