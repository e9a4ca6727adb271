-- Which whole numbers without a sign a value of 128 bits is.
use Rattle.std.proofs.Common.{◌≡◌, ℕ, ◌<◌, ◌^◌, Option, Some, None, ap, ◌∙◌, arith}
use Rattle.std.specs.Prelude.{ℤ, pos, ◌↔◌, FitsSigned, MatchOption, IfSome, IfNone}
use Rattle.std.specs.Int.{w128}
use Rattle.jsonb_value.specs.Tree.{Tree}
use Rattle.jsonb_typed.specs.declared.numbers.Fit.{Fit}
use Rattle.jsonb_typed.specs.Types.{IsAtScale, IsUInt64}

-- What is found is the value of 128 bits that stands for the member, if there is one.
abbrev pub IsFound : Option ℤ → Fit → Tree → Type 0
IsFound found fit t =
    (v : ℤ) → FitsSigned w128 v → (found ≡ Some v) ↔ IsAtScale fit 0 v t

wide : (n : ℕ) → n < 2 ^ 64 → FitsSigned w128 (pos n)
wide n low = record { sfits = omega (arith, low) }

pub no_unsigned : (r : Option ℕ) (found : Option ℤ) (fit : Fit) (t : Tree) → IsFound found fit t
    → found ≡ None → r ≡ None
    → MatchOption r ((n : ℕ) → IsUInt64 fit n t → ⊥) (λ n. IsUInt64 fit n t)
no_unsigned r found fit t exact nothing is =
    rw is (λ n stands.
    let there : found ≡ Some (pos n) = (exact (pos n) (wide n stands.0)).1 stands.1 in absurd cc)

pub unsigned : (r : Option ℕ) (found : Option ℤ) (fit : Fit) (t : Tree) (v : ℤ)
    → IsFound found fit t → found ≡ Some v → IfSome r (λ n. (n < 2 ^ 64) × (v ≡ pos n))
    → IfNone r ((n : ℕ) → n < 2 ^ 64 → v ≡ pos n → ⊥)
    → MatchOption r ((n : ℕ) → IsUInt64 fit n t → ⊥) (λ n. IsUInt64 fit n t)
unsigned (Some n) found fit t v exact is some none =
    (some.0, (exact (pos n) (wide n some.0)).0 (is ∙ ap Some some.1))
unsigned None found fit t v exact is some none = λ n stands.
    let there : found ≡ Some (pos n) = (exact (pos n) (wide n stands.0)).1 stands.1 in
    let same : v ≡ pos n = cc in none n stands.0 same
