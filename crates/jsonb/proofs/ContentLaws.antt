-- The bytes that an item was made from mean its value.
use Rattle.std.proofs.Common.{◌≡◌, ℕ, List, Option, Some, None, refl, sym, ap, subst, Bor}
use Rattle.std.specs.Option.{option_copied}
use Rattle.jsonb_value.specs.NumCode.{NumCode}
use Rattle.jsonb_value.specs.ExtCode.{ExtCode}
use Rattle.jsonb.specs.declared.number_item.NumberItem.{NumberItem}
use Rattle.jsonb.specs.declared.extension_item.ExtensionItem.{ExtensionItem}
use Rattle.jsonb.specs.ItemView.{number, extension}
use Rattle.jsonb.specs.Storage.{IsHeld}
use Rattle.jsonb.specs.ItemValues.{number_source, number_of_item, extension_source}
use Rattle.jsonb.specs.ItemValues.{extension_of_item}
use Rattle.jsonb.proofs.PayloadLaws.{NumCode-number_in, ExtCode-extension_in}

given_holds : (P : List ℕ → Type 0) (o : Option (Bor (List ℕ))) (bytes : List ℕ)
    → ((b : Bor (List ℕ)) → o ≡ Some b → P b.now) → option_copied o ≡ Some bytes → P bytes
given_holds P None bytes holds e = cc
given_holds P (Some b) bytes holds e = let same : b.now ≡ bytes = cc in rw same at (holds b refl)

pub NumCode-given : (item : NumberItem) (bytes : List ℕ) → number_source item ≡ Some bytes
    → NumCode bytes (number_of_item item)
NumCode-given item bytes = given_holds (λ p. NumCode p item.number) item.payload bytes
    (λ b e. NumCode-number_in b.now item.number (item.means b e))

pub ExtCode-given : (item : ExtensionItem) (bytes : List ℕ) → extension_source item ≡ Some bytes
    → ExtCode bytes (extension_of_item item)
ExtCode-given item bytes = given_holds (λ p. ExtCode p (extension_of_item item)) item.payload bytes
    (λ b e. ExtCode-extension_in b.now (extension_of_item item) (item.means b e))

-- The contents of an item are consistent.
pub IsHeld-number_given : (item : NumberItem) (bytes : Bor (List ℕ)) → item.payload ≡ Some bytes
    → IsHeld (number (number_source item) (number_of_item item))
IsHeld-number_given item bytes e =
    subst (λ o. IsHeld (number (option_copied o) item.number)) (sym e)
    (NumCode-given item bytes.now (ap option_copied e))

pub IsHeld-extension_given : (item : ExtensionItem) (bytes : Bor (List ℕ))
    → item.payload ≡ Some bytes
    → IsHeld (extension (extension_source item) (extension_of_item item))
IsHeld-extension_given item bytes e =
    rw e (ExtCode-given item bytes.now (ap option_copied e))
