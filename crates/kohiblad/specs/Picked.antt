-- The results of picking members, and of listing keys, as C receives them.
use Rattle.std.specs.Prelude.{◌≡◌, ◌⊎◌, ℕ, zero, suc, List, map, Option, None, Some}
use Rattle.std.specs.Borrow.{Bor}
use Rattle.jsonb_value.specs.declared.error.Error.TheVariants.{InvalidJsonb, OutOfMemory}
use Rattle.jsonb_value.specs.Meaning.{Meaning, document, other_bytes}
use Rattle.jsonb_value.specs.Tree.{Tree}
use Rattle.jsonb_codec.specs.Canon.{canon}
use Rattle.jsonb_functions.specs.Keys.{key_array}
use Rattle.jsonb_functions.specs.Picked.{picked}
use Rattle.jsonb_functions.specs.declared.choice.Kept.{Kept}
use Rattle.jsonb_functions.specs.declared.choice.Kept.TheVariants.{Named, Others}
use Rattle.kohiblad.specs.Functions.{WritesTo}
use Rattle.kohiblad.specs.Names.{names_in}
use Rattle.kohiblad.specs.Status.{code, none, other_kind, IsHandedOver, IsOneAnswered}
use Rattle.kohiblad.specs.Status.{IsRefused}

-- Which members are kept, by a caller's number: with 0 those that are named.
abbrev pub kept_by : ℕ → Kept
kept_by zero = Named
kept_by (suc n) = Others

-- The object is copied with the members that are picked by these names, if there are names.
abbrev pub IsTreePicked : Kept → Tree → Option (List (List ℕ)) → List ℕ → List ℕ → ℕ → ℕ → Type 0
IsTreePicked which t None before after size status = IsRefused other_kind before after size status
IsTreePicked which t (Some texts) before after size status =
    (names : List (Bor (List ℕ))) × ((map (λ name. name.now) names ≡ texts)
    × IsOneAnswered (WritesTo (picked names which t)) before after size status)

-- The object is copied with the members that are picked by the names that a document gives, or
-- there is not enough memory; bytes that are not a document are refused.
abbrev pub IsPickedDocument : Kept → Meaning → Meaning → List ℕ → List ℕ → ℕ → ℕ → Type 0
IsPickedDocument which (document t) (document u) before after size status =
    IsTreePicked which t (names_in u) before after size status
    ⊎ IsRefused (code OutOfMemory) before after size status
IsPickedDocument which m n before after size status =
    IsRefused (code InvalidJsonb) before after size status

-- The document of an array of keys is copied, if there is one.
abbrev pub IsArrayCopied : Option Tree → List ℕ → List ℕ → ℕ → ℕ → Type 0
IsArrayCopied None before after size status = IsRefused none before after size status
IsArrayCopied (Some keys) before after size status =
    IsHandedOver (canon keys) before after size status

-- The document of the array of an object's keys is copied, or there is not enough memory; bytes
-- that are not a document are refused.
abbrev pub AreKeysCopied : Meaning → List ℕ → List ℕ → ℕ → ℕ → Type 0
AreKeysCopied (document t) before after size status =
    IsArrayCopied (key_array t) before after size status
    ⊎ IsRefused (code OutOfMemory) before after size status
AreKeysCopied (other_bytes b) before after size status =
    IsRefused (code InvalidJsonb) before after size status
