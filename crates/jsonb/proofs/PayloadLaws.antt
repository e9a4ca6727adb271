-- The meanings of payloads as functions agree with the relations.
use Rattle.std.proofs.Common.{◌≡◌, ℕ, List, Some, None, inl, inr, refl, ap, Bor, Err}
use Rattle.jsonb_value.specs.declared.error.Error.TheVariants.{InvalidJsonbNumber}
use Rattle.jsonb_value.specs.declared.number.Number.{Number}
use Rattle.jsonb_value.specs.Tree.{Extension}
use Rattle.jsonb_value.specs.NumCode.{NumCode}
use Rattle.jsonb_value.specs.ExtCode.{ExtCode}
use Rattle.jsonb_value.proofs.Codes.{NumCode-unique}
use Rattle.jsonb_value.proofs.ExtCodes.{ExtCode-unique}
use Rattle.jsonb_value.proofs.PayloadDecision.{Decided, decide_number, decide_extension}
use Rattle.jsonb.specs.Payloads.{witness_of, number_in, extension_in, extension_error}
use Rattle.jsonb.specs.Item.{number_item, extension_item}

-- if there is at most one element, the one that was found is it
found-some : {A : Type 0} (P : A → Type 0) (d : Decided ((x : A) × P x)) (x : A)
    → ((y : A) → P y → y ≡ x) → P x → witness_of P d ≡ Some x
found-some P (inl h) x unique k = ap Some (unique h.0 h.1)
found-some P (inr none) x unique k = absurd (none (x, k))

found-none : {A : Type 0} (P : A → Type 0) (d : Decided ((x : A) × P x)) → ((x : A) → P x → ⊥)
    → witness_of P d ≡ None
found-none P (inl h) nothing = absurd (nothing h.0 h.1)
found-none P (inr h) nothing = refl

found-holds : {A : Type 0} (P : A → Type 0) (d : Decided ((x : A) × P x)) (x : A)
    → witness_of P d ≡ Some x → P x
found-holds P (inl h) x e = let same : h.0 ≡ x = cc in rw same at h.1
found-holds P (inr none) x e = cc

pub number_in-NumCode : (p : List ℕ) (x : Number) → NumCode p x → number_in p ≡ Some x
unfolding number_in
number_in-NumCode p x h =
    found-some (NumCode p) (decide_number p) x (λ y k. NumCode-unique p y x k h) h

pub number_in-none : (p : List ℕ) → ((x : Number) → NumCode p x → ⊥) → number_in p ≡ None
unfolding number_in
number_in-none p nothing = found-none (NumCode p) (decide_number p) nothing

pub NumCode-number_in : (p : List ℕ) (x : Number) → number_in p ≡ Some x → NumCode p x
unfolding number_in
NumCode-number_in p x e = found-holds (NumCode p) (decide_number p) x e

pub extension_in-ExtCode : (p : List ℕ) (e : Extension) → ExtCode p e → extension_in p ≡ Some e
unfolding extension_in
extension_in-ExtCode p e h =
    found-some (ExtCode p) (decide_extension p) e (λ y k. ExtCode-unique p y e k h) h

pub extension_in-none : (p : List ℕ) → ((e : Extension) → ExtCode p e → ⊥) → extension_in p ≡ None
unfolding extension_in
extension_in-none p nothing = found-none (ExtCode p) (decide_extension p) nothing

pub ExtCode-extension_in : (p : List ℕ) (e : Extension) → extension_in p ≡ Some e → ExtCode p e
unfolding extension_in
ExtCode-extension_in p e h = found-holds (ExtCode p) (decide_extension p) e h

-- the bytes kept by an item made from bytes
pub number_in-given : (bytes : Bor (List ℕ)) (x : Number) → NumCode bytes.now x
    → (given : Bor (List ℕ)) → Some bytes ≡ Some given → number_in given.now ≡ Some x
number_in-given bytes x h given e =
    let same : bytes ≡ given = cc in rw same at (number_in-NumCode bytes.now x h)

pub extension_in-given : (bytes : Bor (List ℕ)) (x : Extension) → ExtCode bytes.now x
    → (given : Bor (List ℕ)) → Some bytes ≡ Some given → extension_in given.now ≡ Some x
extension_in-given bytes x h given e =
    let same : bytes ≡ given = cc in rw same at (extension_in-ExtCode bytes.now x h)

-- bytes that mean no number have no item
pub number_item-none : (p : List ℕ) → ((x : Number) → NumCode p x → ⊥)
    → Err InvalidJsonbNumber ≡ number_item p
number_item-none p nothing = cc (number_in-none p nothing)

pub extension_item-none : (p : List ℕ) → ((x : Extension) → ExtCode p x → ⊥)
    → Err (extension_error p) ≡ extension_item p
extension_item-none p nothing = cc (extension_in-none p nothing)
