-- The possible payloads of each type.
use Rattle.std.proofs.Common.{◌⊎◌, inl, inr, ◌≡◌, ◌≢◌, ◌-◌, ◌↔◌, ◌&&◌, ℕ, List, []}
use Rattle.std.proofs.Common.{Bool, true, false, IsTrue, Result, Ok, Err, IsErrAnd, OnErr, eqb}
use Rattle.std.proofs.Common.{length, ◌∷◌, refl, sym, ◌∙◌, arith}
use Rattle.std.proofs.lemmas.Bool.Decides.{nat_tests}
use Rattle.std.specs.Str.{IsUtf8}
use Rattle.jsonb_value.specs.declared.number.Number.{Number}
use Rattle.jsonb_value.specs.NumCode.{NumCode}
use Rattle.jsonb_value.specs.ExtCode.{ExtCode}
use Rattle.jsonb_value.specs.Tree.{Extension, Tree, null, boolean, number, text, extension}
use Rattle.jsonb_codec.specs.Doc.{type_of, Payload}
use Rattle.jsonb_codec.specs.declared.document.fault.Fault.{Fault}
use Rattle.jsonb_codec.specs.Parts.{HoldsOrFaults, Excludes, HoldsOrExcludes, HasPayload}

empty_after : (t : Tree) (p : List ℕ)
    → (type_of t ≡ 0) ⊎ ((type_of t ≡ 805306368) ⊎ (type_of t ≡ 1073741824)) → Payload t p → p ≡ []
empty_after null p is h = h
empty_after (boolean b) p is h = h
empty_after t p is h = absurd (grind arith)

pub text_after : (t : Tree) (p : List ℕ) → type_of t ≡ 268435456 → Payload t p → IsUtf8 p
text_after (text s) p e h = rw h.0 h.1
text_after t p e h = absurd (grind arith)

pub number_after : (t : Tree) (p : List ℕ) → type_of t ≡ 536870912 → Payload t p → (x : Number)
    × NumCode p x
number_after (number x) p e h = (x, h)
number_after t p e h = absurd (grind arith)

pub extension_after : (t : Tree) (p : List ℕ) → type_of t ≡ 1610612736 → Payload t p
    → (x : Extension) × ExtCode p x
extension_after (extension x) p e h = (x, h)
extension_after t p e h = absurd (grind arith)

pub iff_trans : {A B C : Type 0} → (A ↔ B) → (B ↔ C) → A ↔ C
iff_trans h k = (λ a. k.0 (h.0 a), λ c. h.1 (k.1 c))

pub HasPayload-empty : (d k : ℕ) (p : List ℕ) → (k ≡ 0) ⊎ ((k ≡ 805306368) ⊎ (k ≡ 1073741824))
    → (p ≡ []) ↔ HasPayload d k p
HasPayload-empty d k p is = (made is, λ (t, (w, (q, h))). empty_after t p (rw q is) h)
  where
    made : (k ≡ 0) ⊎ ((k ≡ 805306368) ⊎ (k ≡ 1073741824)) → p ≡ [] → HasPayload d k p
    made (inl e) h = (null, (omega arith, (sym e, h)))
    made (inr (inl e)) h = (boolean false, (omega arith, (sym e, h)))
    made (inr (inr e)) h = (boolean true, (omega arith, (sym e, h)))

pub HasPayload-text : (d k : ℕ) (p : List ℕ) → k ≡ 268435456 → IsUtf8 p ↔ HasPayload d k p
HasPayload-text d k p e = (
  λ h. (text p, (omega arith, (sym e, (refl, h)))),
  λ (t, (w, (q, h))). text_after t p (q ∙ e) h,
)

pub HasPayload-number : (d k : ℕ) (p : List ℕ) → k ≡ 536870912 → ((x : Number) × NumCode p x)
    ↔ HasPayload d k p
HasPayload-number d k p e = (
  λ h. (number h.0, (omega arith, (sym e, h.1))),
  λ (t, (w, (q, h))). number_after t p (q ∙ e) h,
)

pub HasPayload-extension : (d k : ℕ) (p : List ℕ) → k ≡ 1610612736 → ((x : Extension) × ExtCode p x)
    ↔ HasPayload d k p
HasPayload-extension d k p e = (
  λ h. (extension h.0, (omega arith, (sym e, h.1))),
  λ (t, (w, (q, h))). extension_after t p (q ∙ e) h,
)

pub empty_test : (b : Bool) (p : List ℕ) → b ≡ eqb (length p) 0 → IsTrue b ↔ (p ≡ [])
empty_test b [] e = (λ _. refl, λ _. e)
empty_test b (x ∷ p) e = (λ q. absurd (grind (arith, nat_tests)), λ q. cc)

pub not_empty : (b : Bool) (p : List ℕ) → b ≡ eqb (length p) 0 → b ≡ false → length p ≡ 0 → ⊥
not_empty b [] e never z = let both = sym never ∙ e in cc
not_empty b (x ∷ p) e never z = omega arith

-- a fault that `?` passes on
pub raised : {A : Type 0} (P : Type 0) (r : Result A Fault) (fault : Fault)
    → IsErrAnd r (λ x. x ≡ fault) → ¬ P → HoldsOrFaults r P
raised P (Ok x) fault h never = absurd h
raised P (Err x) fault h never = never

pub tells_iff : {A P Q : Type 0} (r : Result A Fault) → HoldsOrFaults r P → (P ↔ Q)
    → HoldsOrFaults r Q
tells_iff (Ok x) h k = k.0 h
tells_iff (Err fault) h k = λ q. h (k.1 q)

-- the same of a check within a depth
pub raised_within : {A : Type 0} (limit : ℕ) (P : ℕ → Type 0) (r : Result A Fault) (fault : Fault)
    → IsErrAnd r (λ x. x ≡ fault) → Excludes limit fault P → HoldsOrExcludes limit r P
raised_within limit P (Ok x) fault h never = absurd h
raised_within limit P (Err x) fault h never = λ d r. never d (λ is. r (h ∙ is))

-- what a check within a depth tells of a statement that follows from the checked one, and from
-- which the checked one follows at every depth
pub tells_within : {A : Type 0} (limit : ℕ) (P Q : ℕ → Type 0) (r : Result A Fault)
    → HoldsOrExcludes limit r P → (P limit → Q limit) → ((d : ℕ) → Q d → P d)
    → HoldsOrExcludes limit r Q
tells_within limit P Q (Ok x) h onward back = onward h
tells_within limit P Q (Err fault) h onward back = λ d r q. h d r (back d q)

-- the same of a check that knows of no depth
pub tells_everywhere : {A : Type 0} (limit : ℕ) (P : Type 0) (Q : ℕ → Type 0) (r : Result A Fault)
    → HoldsOrFaults r P → (P → Q limit) → ((d : ℕ) → Q d → P) → HoldsOrExcludes limit r Q
tells_everywhere limit P Q (Ok x) h onward back = onward h
tells_everywhere limit P Q (Err fault) h onward back = λ d r q. h (back d q)

-- what the check of the content of a container tells of the container, which nests one deeper
pub tells_outside : {A : Type 0} (limit : ℕ) (P Q : ℕ → Type 0) (r : Result A Fault) → limit ≢ 0
    → HoldsOrExcludes (limit - 1) r P → (P (limit - 1) → Q limit)
    → ((d : ℕ) → Q d → (d ≢ 0) × P (d - 1)) → HoldsOrExcludes limit r Q
tells_outside limit P Q (Ok x) some h onward back = onward h
tells_outside limit P Q (Err fault) some h onward back = λ d r q.
    let (deep, inside) = back d q in
    h (d - 1) (λ is. let near = r is in omega arith) inside

pub on_err : {A : Type 0} {P : Type 0} (r : Result A Fault) → P → OnErr r P
on_err (Ok x) h = tt
on_err (Err fault) h = h

pub both_true : (a b : Bool) → IsTrue (a && b) → IsTrue a × IsTrue b
both_true true true h = (refl, refl)
both_true true false h = cc
both_true false b h = cc

pub true_both : (a b : Bool) → IsTrue a → IsTrue b → IsTrue (a && b)
true_both true true h k = refl
true_both true false h k = k
true_both false b h k = h
