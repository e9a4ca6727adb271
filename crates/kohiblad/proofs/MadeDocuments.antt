-- What C receives where a document is made of an item.
use Rattle.std.proofs.Common.{◌≡◌, ℕ, List, length, Option, None, Result, Ok, Err, IfOk, ◌⊎◌}
use Rattle.std.proofs.Common.{inl, inr, subst, ap, ap₂, ◌∙◌}
use Rattle.jsonb_value.specs.declared.error.Error.{Error}
use Rattle.jsonb_value.specs.declared.error.Error.TheVariants as errors
use Rattle.jsonb_value.specs.ExtCode.{extension_payload}
use Rattle.jsonb_value.specs.Tree.{Extension, extension}
use Rattle.jsonb_codec.specs.declared.constants.TheConstants.{EXTENSION_TAG}
use Rattle.jsonb_codec.specs.Canon.{canon}
use Rattle.jsonb_codec.specs.Made.{MadeIfFit}
use Rattle.jsonb.specs.declared.extension_item.ExtensionItem.{ExtensionItem}
use Rattle.jsonb.specs.declared.item.JsonbItem.TheVariants as items
use Rattle.jsonb.specs.declared.owned.OwnedJsonb.{OwnedJsonb}
use Rattle.jsonb.specs.Code.{scalar_bytes, extension_bytes, item_document, CanBeStored}
use Rattle.jsonb.specs.ItemValues.{extension_source, extension_of_item}
use Rattle.jsonb.specs.ItemView.{ItemView, item_view}
use Rattle.jsonb.specs.Owned.{owned_bytes, result_bytes}
use Rattle.kohiblad.specs.Output.{IsWrittenOut}
use Rattle.kohiblad.specs.Status.{code, IsAnswered, IsHandedOver, IsRefused}

abbrev error_result : Error → Result OwnedJsonb Error
error_result e = Err e

-- so that only memory is refused
only_memory : (e : Error) (Fits : Type 0) → Fits
    → (e ≡ errors.InvalidJsonb) ⊎ (e ≡ errors.OutOfMemory)
    → (error_result e ≡ error_result errors.InvalidJsonb → Fits → ⊥) → e ≡ errors.OutOfMemory
only_memory e Fits fits (inl is) past = absurd (past (ap error_result is) fits)
only_memory e Fits fits (inr is) past = is

-- An item that can be stored is written as its document.
pub written : (r : Result OwnedJsonb Error) (item : ItemView) (text before after : List ℕ)
    (size status : ℕ) → item_document item ≡ text → CanBeStored item
    → IfOk r (λ owned. owned_bytes owned ≡ item_document item) → MadeIfFit (CanBeStored item) r
    → IsAnswered (result_bytes r) before after size status
    → IsWrittenOut text before after size status
written (Ok owned) item text before after size status is fits ok limits answered =
    inl (subst (λ (b : List ℕ). IsHandedOver b before after size status) (ok ∙ is) answered)
written (Err e) item text before after size status is fits ok limits answered =
    let memory = only_memory e (CanBeStored item) fits limits.only limits.past.0 in
    inr (subst (λ (s : ℕ). IsRefused s before after size status) (ap code memory) answered)

-- One that cannot be stored is refused.
pub unstored : (r : Result OwnedJsonb Error) (item : ItemView) (before after : List ℕ)
    (size status : ℕ) → (CanBeStored item → ⊥) → MadeIfFit (CanBeStored item) r
    → IsAnswered (result_bytes r) before after size status
    → IsRefused (code errors.InvalidJsonb) before after size status
unstored (Ok owned) item before after size status past limits answered =
    absurd (past limits.fits)
unstored (Err e) item before after size status past limits answered =
    let is : error_result e ≡ error_result errors.InvalidJsonb = limits.past.1 past in
    let invalid : e ≡ errors.InvalidJsonb = cc is in
    subst (λ (s : ℕ). IsRefused s before after size status) (ap code invalid) answered

-- An extension value that is held by value is stored as it is written.
module _ (item : ExtensionItem) (e : Extension) (is : extension_of_item item ≡ e)
    (source : extension_source item ≡ None) where
  pub made_extension : item_document (item_view (items.Extension item)) ≡ canon (extension e)
  made_extension = ap₂ (λ (s : Option (List ℕ)) (y : Extension). scalar_bytes EXTENSION_TAG
      (extension_bytes s y)) source is

  pub extension_length : length (extension_bytes (extension_source item) (extension_of_item item))
      ≡ length (extension_payload e)
  extension_length =
      ap₂ (λ (s : Option (List ℕ)) (y : Extension). length (extension_bytes s y)) source is
