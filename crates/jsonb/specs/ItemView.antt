-- The contents of an item, regardless of where its bytes are stored.
use Rattle.std.specs.Prelude.{ℕ, List, Bool, Option, Result, Ok, Err}
use Rattle.std.specs.Borrow.{Bor}
use Rattle.jsonb_value.specs.declared.error.Error.{Error}
use Rattle.jsonb_value.specs.declared.number.Number.{Number}
use Rattle.jsonb_value.specs.Tree.{Extension}
use Rattle.jsonb_value.specs.Value.{cow_bytes}
use Rattle.jsonb.specs.declared.item.JsonbItem.{JsonbItem}
use Rattle.jsonb.specs.declared.item.JsonbItem.TheVariants as items
use Rattle.jsonb.specs.ItemValues.{number_source, number_of_item, extension_source}
use Rattle.jsonb.specs.ItemValues.{extension_of_item}
use Rattle.jsonb.specs.Raw.{raw_bytes}
use Rattle.jsonb.specs.Owned.{owned_bytes}

-- An item; a number or an extension value has its value and, if it was made from bytes, these
-- bytes.
pub data ItemView : Type 0 where
  null : ItemView
  boolean : Bool → ItemView
  number : Option (List ℕ) → Number → ItemView
  text : List ℕ → ItemView
  extension : Option (List ℕ) → Extension → ItemView
  raw : List ℕ → ItemView
  owned : List ℕ → ItemView

-- The contents of a `JsonbItem`.
abbrev pub item_view : JsonbItem → ItemView
item_view items.Null = null
item_view (items.Boolean b) = boolean b
item_view (items.Number item) = number (number_source item) (number_of_item item)
item_view (items.String s) = text (cow_bytes s)
item_view (items.Extension item) = extension (extension_source item) (extension_of_item item)
item_view (items.Raw r) = raw (raw_bytes r)
item_view (items.Owned o) = owned (owned_bytes o)

-- The contents of an item in the result of a call.
abbrev pub result_view : Result JsonbItem Error → Result ItemView Error
result_view (Ok item) = Ok (item_view item)
result_view (Err e) = Err e

-- A key and the contents of an item in the result of a call.
abbrev pub pair_view : Result (Bor (List ℕ) × JsonbItem) Error → Result (List ℕ × ItemView) Error
pair_view (Ok pair) = Ok (pair.0.now, item_view pair.1)
pair_view (Err e) = Err e
