-- The meaning of byte strings and items.
use Rattle.std.specs.Prelude.{ℕ, List}
use Rattle.std.proofs.Common.{inl, inr}
use Rattle.jsonb_value.specs.Tree as trees
use Rattle.jsonb_value.specs.Meaning.{Meaning, document, other_bytes}
use Rattle.jsonb_value.proofs.PayloadDecision.{Decided}
use Rattle.jsonb_codec.specs.Doc.{IsDocument}
use Rattle.jsonb_codec.proofs.Decision.{decide}
use Rattle.jsonb.specs.declared.item.JsonbItem.{JsonbItem}
use Rattle.jsonb.specs.declared.owned.OwnedJsonb.{OwnedJsonb}
use Rattle.jsonb.specs.declared.raw.RawJsonb.{RawJsonb}
use Rattle.jsonb.specs.Owned.{owned_bytes}
use Rattle.jsonb.specs.Raw.{raw_bytes}
use Rattle.jsonb.specs.ItemView.{ItemView, item_view, null, boolean, number, text, extension, raw}
use Rattle.jsonb.specs.ItemView.{owned}

-- The tree of a document, or the bytes themselves.
abbrev pub meaning_or_bytes : (b : List ℕ) → Decided (IsDocument b) → Meaning
meaning_or_bytes b (inl found) = document found.0
meaning_or_bytes b (inr none) = other_bytes b

-- The meaning of a byte string: the tree of a document; other bytes mean themselves.
unfoldable pub meaning_of : List ℕ → Meaning
meaning_of b = meaning_or_bytes b (decide b)

-- The meaning of an item: its value, or the meaning of its bytes.
abbrev pub view_meaning : ItemView → Meaning
view_meaning null = document trees.null
view_meaning (boolean b) = document (trees.boolean b)
view_meaning (number given x) = document (trees.number x)
view_meaning (text s) = document (trees.text s)
view_meaning (extension given e) = document (trees.extension e)
view_meaning (raw b) = meaning_of b
view_meaning (owned b) = meaning_of b

-- The meaning of borrowed bytes.
abbrev pub raw_meaning : RawJsonb → Meaning
raw_meaning value = meaning_of (raw_bytes value)

-- The meaning of owned bytes.
abbrev pub owned_meaning : OwnedJsonb → Meaning
owned_meaning value = meaning_of (owned_bytes value)

-- The meaning of a `JsonbItem`.
abbrev pub item_meaning : JsonbItem → Meaning
item_meaning item = view_meaning (item_view item)
