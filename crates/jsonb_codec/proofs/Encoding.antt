-- What the writer ensures for each shape of a level, for the tree with that shape.
use Rattle.std.proofs.Common.{◌≡◌, ◌⊎◌, ◌↔◌, ◌++◌, ℕ, List, length, Result, Ok, Err, IfOk}
use Rattle.std.proofs.Common.{IfErr, OnOk, OnErr, IsOk, refl, rules}
use Rattle.jsonb_value.specs.declared.error.Error.{Error}
use Rattle.jsonb_value.specs.declared.error.Error.TheVariants.{InvalidJsonb, OutOfMemory}
use Rattle.jsonb_value.specs.Tree.{Tree}
use Rattle.jsonb_codec.specs.Canon as tree
use Rattle.jsonb_codec.specs.Canon.{canon}
use Rattle.jsonb_codec.specs.Made.{MadeIfFit}
use Rattle.jsonb_codec.specs.Shape.{Shape, document, ShapeFits}
use Rattle.jsonb_codec.proofs.MadeLaws.{made_if_fit}
use Rattle.std.proofs.lemmas.Result.{on_ok_weaker}
use Rattle.jsonb_codec.specs.Canon.{shape_of}

module _ (LevelIs : Shape → Type 0) (t : Tree) (is : LevelIs (shape_of t)) where
  pub measured : (r : Result ℕ Error)
      → IfOk r (λ n. (s : Shape) → LevelIs s → ShapeFits s × (n ≡ length (document s)))
      → IfOk r (λ n. n ≡ length (canon t))
  measured (Ok n) ok = (ok (shape_of t) is).1
  measured (Err e) ok = tt

  pub measured_fits : (r : Result ℕ Error)
      → IfOk r (λ n. (s : Shape) → LevelIs s → ShapeFits s × (n ≡ length (document s)))
      → OnErr r ((s : Shape) → LevelIs s → ShapeFits s → ⊥) → IsOk r ↔ tree.Fits t
  measured_fits (Ok n) ok err = (λ _. (ok (shape_of t) is).0, λ _. refl)
  measured_fits (Err e) ok err =
      (search rules, λ fits. absurd (err (shape_of t) is fits))

  pub appended : {A : Type 0} (r : Result A Error) (new old : List ℕ)
      → OnOk r ((s : Shape) → LevelIs s → ShapeFits s × (new ≡ old ++ document s))
      → OnOk r (tree.Fits t × (new ≡ old ++ canon t))
  appended (Ok x) new old ok =
      let (fits, is_new) = ok (shape_of t) is in
      (fits, is_new)
  appended (Err e) new old ok = tt

  -- If the tree does not fit, nothing is appended or allocated.
  pub limits : {A : Type 0} (r : Result A Error) (new old : List ℕ)
      → OnOk r ((s : Shape) → LevelIs s → ShapeFits s × (new ≡ old ++ document s))
      → (r ≡ Err InvalidJsonb) ↔ ((s : Shape) → LevelIs s → ShapeFits s → ⊥)
      → (r ≡ Err OutOfMemory → (s : Shape) → LevelIs s → ShapeFits s)
      → IfErr r (λ e. (e ≡ InvalidJsonb) ⊎ (e ≡ OutOfMemory)) → MadeIfFit (tree.Fits t) r
  limits r new old ok past memory only =
      made_if_fit r (on_ok_weaker r (λ known. (known (shape_of t) is).0) ok)
      (λ e. past.0 e (shape_of t) is) (λ e. memory e (shape_of t) is) only
