-- No value of a type stands for an array or object.
use Rattle.std.specs.Prelude.{◌≡◌, ℕ, ℤ, Bool}
use Rattle.jsonb_value.specs.Tree.{Extension, Tree, boolean, extension}
use Rattle.jsonb.specs.Node.{IsContainer}
use Rattle.jsonb.proofs.KindLaws.{container_cases}
use Rattle.jsonb_typed.specs.declared.numbers.Fit.{Fit}
use Rattle.jsonb_typed.specs.Types.{IsAtScale}

pub scalar_number : (fit : Fit) (scale : ℕ) (v : ℤ) (t : Tree) → IsContainer t
    → IsAtScale fit scale v t → ⊥
scalar_number fit scale v t is stands =
    container_cases (λ (u : Tree). IsAtScale fit scale v u → ⊥) t is (λ ts h. h) (λ ps h. h) stands

pub scalar_boolean : (b : Bool) (t : Tree) → IsContainer t → t ≡ boolean b → ⊥
scalar_boolean b t is same =
    container_cases (λ (u : Tree). u ≡ boolean b → ⊥) t is (λ ts other. cc) (λ ps other. cc) same

pub scalar_extension : (e : Extension) (t : Tree) → IsContainer t → t ≡ extension e → ⊥
scalar_extension e t is same =
    container_cases (λ (u : Tree). u ≡ extension e → ⊥) t is (λ ts other. cc) (λ ps other. cc)
    same
