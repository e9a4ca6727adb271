-- The document of an item means what the item means.
use Rattle.std.proofs.Common.{◌≡◌, ◌≢◌, ℕ, ◌<◌, ◌^◌, List, [], length, true, false, Some, None}
use Rattle.std.proofs.Common.{◌↔◌, Result, Ok, Err, zero, suc, pos, negsuc, refl, subst, inl, arith}
use Rattle.jsonb_value.specs.declared.number.Number.{Number}
use Rattle.jsonb_value.specs.declared.number.Number.TheVariants.{Int64, UInt64, Decimal64}
use Rattle.jsonb_value.specs.declared.number.Number.TheVariants.{Decimal128}
use Rattle.jsonb_value.specs.declared.error.Error.{Error}
use Rattle.jsonb_value.specs.NumCode.{NumCode, number_payload}
use Rattle.jsonb_value.specs.Norm.{norm_number}
use Rattle.jsonb_value.specs.Tree.{Tree}
use Rattle.jsonb_value.specs.Tree as trees
use Rattle.jsonb_value.proofs.PayloadLaws.{NumCode-number_payload, ExtCode-extension_payload}
use Rattle.jsonb_codec.specs.Doc.{Doc, Payload, type_of}
use Rattle.jsonb_codec.proofs.Unique.{Doc-unique}
use Rattle.jsonb_codec.specs.Made.{MadeIfFit}
use Rattle.jsonb_codec.proofs.MadeLaws.{made_if_fit, made_ok}
use Rattle.jsonb.specs.declared.item.JsonbItem.{JsonbItem}
use Rattle.jsonb.specs.declared.item.JsonbItem.TheVariants as items
use Rattle.jsonb.specs.declared.owned.OwnedJsonb.{OwnedJsonb}
use Rattle.jsonb.specs.declared.raw.RawJsonb.{RawJsonb}
use Rattle.jsonb.specs.declared.node.Node.{Node}
use Rattle.jsonb.specs.declared.node.Node.TheVariants as nodes
use Rattle.jsonb.specs.Node.{node_tree, node_view}
use Rattle.jsonb.specs.Document.{document_bytes}
use Rattle.jsonb.specs.ItemView.{ItemView, null, boolean, number, text, extension, raw, owned}
use Rattle.jsonb.specs.ItemView.{item_view}
use Rattle.jsonb.specs.Code.{CanBeStored, HasDocument, IsSignedZero, ItemMeans, item_document}
use Rattle.jsonb.specs.Code.{extension_bytes, number_bytes, scalar_bytes}
use Rattle.jsonb.specs.DocumentWalk.{IsItemOf}
use Rattle.jsonb.specs.Storage.{IsHeld, stored_code}
use Rattle.jsonb.proofs.DocumentLaws.{tree_of_bytes}

scalar_document : (t : Tree) (p : List ℕ) → type_of t ≢ 1342177280 → length p < 2 ^ 28
    → Payload t p → Doc (scalar_bytes (type_of t) p) t
scalar_document t p other short means =
    inl (other, record { payload = p; parts = refl; short = short; means = means })

unsigned_or_other : (x : Number) → (IsSignedZero (number None x) → ⊥) → norm_number x ≡ x
unsigned_or_other (Int64 (pos zero)) other = absurd (other tt)
unsigned_or_other (Int64 (pos (suc n))) other = refl
unsigned_or_other (Int64 (negsuc n)) other = refl
unsigned_or_other (UInt64 n) other = refl
unsigned_or_other (Decimal64 d) other = refl
unsigned_or_other (Decimal128 d) other = refl

written_number : (x : Number) → (IsSignedZero (number None x) → ⊥) → IsHeld (number None x)
    → NumCode (number_payload x) x
written_number x other held =
    subst (NumCode (number_payload x)) (unsigned_or_other x other) (NumCode-number_payload x held)

-- But for a signed zero by value, the document of an item means the item's tree.
pub means_item : (x : ItemView) → IsHeld x → (t : Tree) → ItemMeans x t → CanBeStored x
    → (IsSignedZero x → ⊥) → Doc (item_document x) t
means_item null held t is short other =
    rw is (scalar_document trees.null [] (λ e. absurd (omega (arith, e))) (omega arith) refl)
means_item (boolean true) held t is short other = rw is
    (scalar_document (trees.boolean true) [] (λ e. absurd (omega (arith, e))) (omega arith) refl)
means_item (boolean false) held t is short other = rw is
    (scalar_document (trees.boolean false) [] (λ e. absurd (omega (arith, e))) (omega arith) refl)
means_item (number None x) held t is short other = rw is
    (scalar_document (trees.number x) (number_payload x) (λ e. absurd (omega (arith, e))) short
    (written_number x other held))
means_item (number (Some p) x) held t is short other =
    rw is (scalar_document (trees.number x) p (λ e. absurd (omega (arith, e))) short held)
means_item (text s) held t is short other =
    rw is (scalar_document (trees.text s) s (λ e. absurd (omega (arith, e))) short (refl, held))
means_item (extension None e) held t is short other = rw is
    (scalar_document (trees.extension e) _ (λ q. absurd (omega (arith, q))) short
    (ExtCode-extension_payload e held))
means_item (extension (Some p) e) held t is short other =
    rw is (scalar_document (trees.extension e) p (λ q. absurd (omega (arith, q))) short held)
means_item (raw b) held t is short other = is
means_item (owned b) held t is short other = is

-- The item of a value means the value's tree.
pub node_means : (node : Node) → ItemMeans (node_view node) (node_tree node)
node_means nodes.Null = refl
node_means (nodes.Boolean b) = refl
node_means (nodes.Number item) = refl
node_means (nodes.String s) = refl
node_means (nodes.Extension item) = refl
node_means (nodes.Container d) = tree_of_bytes (document_bytes d) d refl

-- The document of a signed zero by value means another number.
pub signed_zero : (x : ItemView) (t : Tree) → IsSignedZero x → ItemMeans x t → HasDocument x t → ⊥
signed_zero (number None (Int64 (pos zero))) t signed is has =
    let unsigned = scalar_document (trees.number (UInt64 0)) (number_payload (Int64 (pos 0)))
    (λ e. absurd (omega (arith, e))) (omega arith) (inl (refl, refl)) in
    absurd cc (Doc-unique _ (trees.number (UInt64 0)) t unsigned has.1, is)
signed_zero (number None (Int64 (pos (suc n)))) t signed is has = absurd signed
signed_zero (number None (Int64 (negsuc n))) t signed is has = absurd signed
signed_zero (number None (UInt64 n)) t signed is has = absurd signed
signed_zero (number None (Decimal64 d)) t signed is has = absurd signed
signed_zero (number None (Decimal128 d)) t signed is has = absurd signed
signed_zero x t signed is has = absurd signed

-- An item of a document has a document of its own.
pub stored_document : (u : Tree) (x : ItemView) → IsItemOf u x → (t : Tree) → ItemMeans x t
    → HasDocument x t
stored_document u null of t is =
    (tt, rw is (scalar_document trees.null [] (λ e. absurd (omega (arith, e))) (omega arith) refl))
stored_document u (boolean true) of t is = (
  tt,
  rw is (scalar_document (trees.boolean true) [] (λ e. absurd (omega (arith, e))) (omega arith)
      refl),
)
stored_document u (boolean false) of t is = (
  tt,
  rw is (scalar_document (trees.boolean false) [] (λ e. absurd (omega (arith, e))) (omega arith)
      refl),
)
stored_document u (number given x) of t is =
    let short = subst (λ p. length p < 2 ^ 28) of.code.1 of.short in
    let payload = subst (λ p. Payload u p) of.code.1 of.payload_means in
    let means = subst (λ v. Payload v (number_bytes given x)) of.means payload in (
      short,
      rw is (scalar_document (trees.number x) _ (λ e. absurd (omega (arith, e))) short means),
    )
stored_document u (text s) of t is =
    let short = subst (λ p. length p < 2 ^ 28) of.code.1 of.short in
    let payload = subst (λ p. Payload u p) of.code.1 of.payload_means in
    let means = subst (λ v. Payload v s) of.means payload in
    (short, rw is (scalar_document (trees.text s) s (λ e. absurd (omega (arith, e))) short means))
stored_document u (extension given x) of t is =
    let short = subst (λ p. length p < 2 ^ 28) of.code.1 of.short in
    let payload = subst (λ p. Payload u p) of.code.1 of.payload_means in
    let means = subst (λ v. Payload v (extension_bytes given x)) of.means payload in (
      short,
      rw is (scalar_document (trees.extension x) _ (λ e. absurd (omega (arith, e))) short means),
    )
stored_document u (raw b) of t is = (tt, is)
stored_document u (owned b) of t is = (tt, is)

-- What is made of a scalar's entry is made of the scalar.
pub scalar_alone : (item : JsonbItem) → ((r : RawJsonb) → item ≡ items.Raw r → ⊥)
    → ((o : OwnedJsonb) → item ≡ items.Owned o → ⊥)
    → (scalar_bytes (stored_code (item_view item)).0 (stored_code (item_view item)).1
    ≡ item_document (item_view item))
    × ((length (stored_code (item_view item)).1 < 2 ^ 28) ↔ CanBeStored (item_view item))
scalar_alone items.Null r o = (refl, ((λ h. tt), (λ h. omega arith)))
scalar_alone (items.Boolean true) r o = (refl, ((λ h. tt), (λ h. omega arith)))
scalar_alone (items.Boolean false) r o = (refl, ((λ h. tt), (λ h. omega arith)))
scalar_alone (items.Number n) r o = (refl, ((λ h. h), (λ h. h)))
scalar_alone (items.String s) r o = (refl, ((λ h. h), (λ h. h)))
scalar_alone (items.Extension e) r o = (refl, ((λ h. h), (λ h. h)))
scalar_alone (items.Raw b) r o = absurd (r b refl)
scalar_alone (items.Owned b) r o = absurd (o b refl)

-- What fits exactly if the other does is made in the same way.
pub made_also : {A F G : Type 0} (r : Result A Error) → F ↔ G → MadeIfFit F r → MadeIfFit G r
made_also (Ok x) same made = made_ok x (same.0 made.fits)
made_also (Err e) same made = made_if_fit (Err e) tt (λ refused g. made.past.0 refused (same.1 g))
    (λ out. same.0 (made.memory out)) made.only
