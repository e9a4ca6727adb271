-- Fields of values that are no texts, where texts say dates.
use Rattle.std.proofs.Common.{◌≡◌, ℕ, List, refl}
use Rattle.std.specs.Prelude.{Option, true}
use Rattle.jsonb_value.specs.Tree as trees
use Rattle.jsonb_value.specs.Tree.{Tree}
use Rattle.kohiblad_shell.specs.Extracts.{IsDatedField, IsShownField}

pub dated_otherwise : {V : Type 0} (Stands : V → Tree → Type 0) (Says : V → List ℕ → Type 0)
    (Shows : V → List ℕ → Type 0) (text : V → List ℕ) (t : Tree) (field : Option (List ℕ))
    → ((s : List ℕ) → t ≡ trees.text s → ⊥) → IsShownField (λ v. Stands v t) Shows field
    → IsDatedField true Stands Says Shows text t field
dated_otherwise Stands Says Shows text trees.null field other is = is
dated_otherwise Stands Says Shows text (trees.boolean b) field other is = is
dated_otherwise Stands Says Shows text (trees.number x) field other is = is
dated_otherwise Stands Says Shows text (trees.text s) field other is = absurd (other s refl)
dated_otherwise Stands Says Shows text (trees.extension e) field other is = is
dated_otherwise Stands Says Shows text (trees.array ts) field other is = is
dated_otherwise Stands Says Shows text (trees.object ps) field other is = is
