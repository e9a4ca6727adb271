-- The item of an entry of a document.
use Rattle.std.proofs.Common.{◌≡◌, ◌≢◌, ℕ, ◌+◌, ◌<◌, ◌^◌, List, length, true, false, Result, Ok}
use Rattle.std.proofs.Common.{Err, IsOkAnd, refl, sym, ap, ◌∙◌, inl, inr, Some}
use Rattle.std.proofs.Common.{ne_eqb}
use Rattle.std.specs.Str.{IsUtf8}
use Rattle.jsonb_value.specs.declared.error.Error.{Error}
use Rattle.jsonb_value.specs.Tree.{Tree}
use Rattle.jsonb_value.specs.Tree as trees
use Rattle.jsonb_codec.specs.WordBytes.{word}
use Rattle.jsonb_codec.specs.Doc.{Doc, Scalar, Payload, type_of}
use Rattle.jsonb.specs.declared.item.JsonbItem.{JsonbItem}
use Rattle.jsonb.specs.ItemView.{ItemView, null, boolean, number, text, extension, raw}
use Rattle.jsonb.specs.ItemView.{item_view, result_view}
use Rattle.jsonb.specs.Entry.{Code, entry_at}
use Rattle.jsonb.specs.Item.{item_of, item_of_number, item_of_extension}
use Rattle.jsonb.specs.Item.{scalar_item, item_under, item_in}
use Rattle.jsonb.specs.Code.{ItemMeans, HasCode, item_document, CanBeStored, scalar_bytes}
use Rattle.jsonb.specs.DocumentWalk.{IsItemOf, IsItemIn}
use Rattle.jsonb.proofs.PayloadLaws.{number_in-NumCode, extension_in-ExtCode}
use Rattle.jsonb.proofs.Utf8.{is_text_yes}
use Rattle.jsonb.proofs.PartLaws.{entry_at-part}
use Rattle.jsonb.proofs.Places.{At, At-left, IsTag, part_at-At, jentry_at-At}
use Rattle.jsonb.proofs.KindLaws.{IsTag-type_of, At-entry, header_at-Scalar, At-payload}
use Rattle.jsonb.proofs.KindLaws.{container_cases, header_of_tree, header_at-Doc}

pub item_of-text : (p : List ℕ) → IsUtf8 p → item_of 268435456 p ≡ Ok (text p)
unfolding item_of
item_of-text p h = rw (is_text_yes p h)

abbrev Found : Tree → List ℕ → Type 0
Found t p =
    (x : ItemView) × ((item_of (type_of t) p ≡ Ok x) × (ItemMeans x t × HasCode x (type_of t) p))

-- there is an item for every payload of a tree
pub found_item : (t : Tree) (p : List ℕ) → Payload t p → Found t p
unfolding item_of
found_item trees.null p h = (null, (refl, (refl, (refl, h))))
found_item (trees.boolean true) p h = (boolean true, (refl, (refl, (refl, h))))
found_item (trees.boolean false) p h = (boolean false, (refl, (refl, (refl, h))))
found_item (trees.number x) p h =
    (number (Some p) x, (ap (item_of_number p) (number_in-NumCode p x h), (refl, (refl, refl))))
found_item (trees.text s) p h = (
  text p,
  (
    item_of-text p (rw h.0 h.1),
    (ap trees.text (sym h.0), (refl, refl)),
  ),
)
found_item (trees.extension e) p h = (
  extension (Some p) e,
  (ap (item_of_extension p) (extension_in-ExtCode p e h), (refl, (refl, refl))),
)
found_item (trees.array ts) p h =
    (raw p, (refl, (inr (refl, h), (trees.array ts, (inr (refl, h), inr (refl, (refl, refl)))))))
found_item (trees.object ps) p h =
    (raw p, (refl, (inr (refl, h), (trees.object ps, (inr (refl, h), inr (refl, (refl, refl)))))))

is_item_of : (t : Tree) (p : List ℕ) → length p < 2 ^ 28 → (h : Payload t p)
    → IsItemOf t (found_item t p h).0
is_item_of t p short h =
    let f = found_item t p h in
    record {
      payload = p;
      short = short;
      payload_means = h;
      item = f.1.0;
      means = f.1.1.0;
      code = f.1.1.1;
    }

pub IsItemOf-Payload : (t : Tree) (p : List ℕ) → length p < 2 ^ 28 → Payload t p → (x : ItemView)
    × ((item_of (type_of t) p ≡ Ok x) × IsItemOf t x)
IsItemOf-Payload t p short h =
    let f = found_item t p h in (f.0, (f.1.0, is_item_of t p short h))

-- a scalar's item is stored as the scalar's document
stored_again : (t : Tree) (p : List ℕ) → type_of t ≢ 1342177280 → length p < 2 ^ 28
    → (h : Payload t p)
    → (item_document (found_item t p h).0 ≡ scalar_bytes (type_of t) p)
    × CanBeStored (found_item t p h).0
unfolding found_item
stored_again trees.null p other short h = (rw h, tt)
stored_again (trees.boolean true) p other short h = (rw h, tt)
stored_again (trees.boolean false) p other short h = (rw h, tt)
stored_again (trees.array ts) p other short h = absurd (other refl)
stored_again (trees.object ps) p other short h = absurd (other refl)
stored_again t p other short h = (refl, short)

-- an entry inside a byte string, and its item
pub entry_at-entry : (bytes : List ℕ) (i j : ℕ) (c : Code) → IsTag c.type
    → length c.payload < 2 ^ 28 → At bytes i (word (c.type + length c.payload))
    → At bytes j c.payload → entry_at bytes i j ≡ Ok c
entry_at-entry bytes i j c tag short h k = rw (
  entry_at-part bytes j i,
  jentry_at-At bytes i c.type (length c.payload) tag short h,
  part_at-At bytes j (length c.payload) c.payload refl k,
)

pub entry_at-Scalar : (b : List ℕ) (t : Tree) (h : Scalar t b)
    → entry_at b 4 8 ≡ Ok record { type = type_of t; payload = h.payload }
entry_at-Scalar b t h =
    entry_at-entry b 4 8 record { type = type_of t; payload = h.payload } (IsTag-type_of t) h.short
    (At-left b 4 _ h.payload (At-entry b t h)) (At-payload b t h)

-- the item of a document is stored as that document
abbrev pub IsOwnItem : Tree → List ℕ → ItemView → Type 0
IsOwnItem t b x = IsItemIn t b x × ((item_document x ≡ b) × CanBeStored x)

-- the item of a document
pub item_in-Doc : (b : List ℕ) (t : Tree) → Doc b t → (x : ItemView)
    × ((item_in b ≡ Ok x) × IsOwnItem t b x)
unfolding item_in scalar_item
item_in-Doc b t (inl (other, h)) =
    let f = found_item t h.payload h.means in
    let again = stored_again t h.payload other h.short h.means in (
      f.0,
      (
        rw (header_at-Scalar b t h, entry_at-Scalar b t h, ne_eqb (type_of t) 1342177280 other)
            f.1.0,
        (
          inl (other, is_item_of t h.payload h.short h.means),
          (again.0 ∙ sym h.parts, again.1),
        ),
      ),
    )
item_in-Doc b t (inr (is, h)) =
    let whole = container_cases (λ t. item_under (header_of_tree t) b ≡ Ok (raw b)) t is
    (λ ts. refl) (λ ps. refl) in
    (raw b, (rw (header_at-Doc b t (inr (is, h))) whole, (inr (is, refl), (refl, tt))))

-- a property of the item's contents holds for the item
pub shown_ok : (r : Result JsonbItem Error) (x : ItemView) (P : ItemView → Type 0)
    → result_view r ≡ Ok x → P x → IsOkAnd r (λ item. P (item_view item))
shown_ok (Ok item) x P e h = let same : item_view item ≡ x = cc in rw same h
shown_ok (Err e) x P q h = cc

-- the item of an entry can be stored
pub IsItemOf-CanBeStored : (t : Tree) (x : ItemView) → IsItemOf t x → CanBeStored x
IsItemOf-CanBeStored t (number given n) item =
    rw item.code.1 at item.short
IsItemOf-CanBeStored t (text s) item =
    rw item.code.1 at item.short
IsItemOf-CanBeStored t (extension given e) item =
    rw item.code.1 at item.short
IsItemOf-CanBeStored t x item = tt
