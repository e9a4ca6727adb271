-- The values of `meaning_of`, and the items that mean a tree.
use Rattle.std.proofs.Common.{◌≡◌, ℕ, List, inl, inr, refl}
use Rattle.jsonb_value.specs.Tree.{Tree}
use Rattle.jsonb_value.specs.Tree as trees
use Rattle.jsonb_value.specs.Value.{cow_bytes}
use Rattle.jsonb_value.specs.Meaning.{document, other_bytes}
use Rattle.jsonb_value.proofs.PayloadDecision.{Decided}
use Rattle.jsonb_codec.specs.Doc.{Doc, IsDocument}
use Rattle.jsonb_codec.proofs.Decision.{decide}
use Rattle.jsonb_codec.proofs.Unique.{Doc-unique}
use Rattle.jsonb.specs.declared.item.JsonbItem.{JsonbItem}
use Rattle.jsonb.specs.declared.item.JsonbItem.TheVariants as items
use Rattle.jsonb.specs.declared.owned.OwnedJsonb.{OwnedJsonb}
use Rattle.jsonb.specs.declared.raw.RawJsonb.{RawJsonb}
use Rattle.jsonb.specs.Code.{ItemMeans}
use Rattle.jsonb.specs.ItemValues.{number_of_item, extension_of_item}
use Rattle.jsonb.specs.ItemMeaning.{meaning_or_bytes, meaning_of, view_meaning, item_meaning}
use Rattle.jsonb.specs.ItemView.{ItemView, raw, owned}

meaning_or_bytes-document : (b : List ℕ) (t : Tree) → Doc b t → (d : Decided (IsDocument b))
    → meaning_or_bytes b d ≡ document t
meaning_or_bytes-document b t doc (inl found) = cc (Doc-unique b found.0 t found.1 doc)
meaning_or_bytes-document b t doc (inr none) = absurd (none (t, doc))

meaning_or_bytes-other : (b : List ℕ) → (IsDocument b → ⊥) → (d : Decided (IsDocument b))
    → meaning_or_bytes b d ≡ other_bytes b
meaning_or_bytes-other b none (inl found) = absurd (none found)
meaning_or_bytes-other b none (inr other) = refl

-- A document means its tree.
pub meaning_of-document : (b : List ℕ) (t : Tree) → Doc b t → meaning_of b ≡ document t
unfolding meaning_of
meaning_of-document b t doc = meaning_or_bytes-document b t doc (decide b)

-- Bytes that are not a document mean themselves.
pub meaning_of-other : (b : List ℕ) → (IsDocument b → ⊥) → meaning_of b ≡ other_bytes b
unfolding meaning_of
meaning_of-other b none = meaning_or_bytes-other b none (decide b)

-- The meaning of an item that means a tree is that tree.
pub view_meaning-document : (x : ItemView) (t : Tree) → ItemMeans x t → view_meaning x ≡ document t
view_meaning-document (raw b) t doc = meaning_of-document b t doc
view_meaning-document (owned b) t doc = meaning_of-document b t doc
view_meaning-document x t e = cc

-- An item without bytes means the tree of its value.
pub value_meaning : (x : JsonbItem) → ((r : RawJsonb) → x ≡ items.Raw r → ⊥)
    → ((o : OwnedJsonb) → x ≡ items.Owned o → ⊥) → (t : Tree) × (item_meaning x ≡ document t)
value_meaning items.Null r o = (trees.null, refl)
value_meaning (items.Boolean b) r o = (trees.boolean b, refl)
value_meaning (items.Number n) r o = (trees.number (number_of_item n), refl)
value_meaning (items.String s) r o = (trees.text (cow_bytes s), refl)
value_meaning (items.Extension e) r o = (trees.extension (extension_of_item e), refl)
value_meaning (items.Raw b) r o = absurd (r b refl)
value_meaning (items.Owned b) r o = absurd (o b refl)
