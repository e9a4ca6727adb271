-- Why bytes have no canonical form.
use Rattle.std.proofs.Common.{◌≡◌, ◌⊎◌, inl, inr, ap, sym, subst, ℕ, List, Err}
use Rattle.jsonb_value.specs.declared.error.Error.{Error}
use Rattle.jsonb_value.specs.declared.error.Error.TheVariants.{InvalidJsonb, OutOfMemory}
use Rattle.jsonb_value.specs.Tree.{Tree}
use Rattle.jsonb_codec.specs.Canon.{Fits}
use Rattle.jsonb_codec.specs.Doc.{Doc}
use Rattle.jsonb_codec.specs.Made.{MadeIfFit}
use Rattle.jsonb.specs.Canonical.{RewritesTo}

by_error : (bytes : List ℕ) (e : Error)
    → (e ≡ InvalidJsonb → (t : Tree) × (Doc bytes t × Fits t) → ⊥)
    → (e ≡ OutOfMemory → (t : Tree) × (Doc bytes t × Fits t))
    → (e ≡ InvalidJsonb) ⊎ (e ≡ OutOfMemory) → RewritesTo bytes (Err e)
by_error bytes e past memory (inl is) =
    subst (λ (x : Error). RewritesTo bytes (Err x)) (sym is)
    (λ t doc fits. past is (t, (doc, fits)))
by_error bytes e past memory (inr is) =
    subst (λ (x : Error). RewritesTo bytes (Err x)) (sym is) (memory is)

pub not_rewritten : {A : Type 0} (bytes : List ℕ) (e : Error)
    → MadeIfFit {A = A} ((t : Tree) × (Doc bytes t × Fits t)) (Err e) → RewritesTo bytes (Err e)
not_rewritten bytes e limits =
    by_error bytes e (λ is. limits.past.0 (ap Err is)) (λ is. limits.memory (ap Err is)) limits.only
