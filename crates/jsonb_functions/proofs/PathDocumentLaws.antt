-- The documents of paths: what they mean, and what is read in them.
use Rattle.std.proofs.Common.{◌≡◌, List, [], ◌∷◌, map, refl, ap, subst, ◌∙◌}
use Rattle.std.specs.Prelude.{Option, Some}
use Rattle.jsonb_value.specs.Norm.{norm, norms}
use Rattle.jsonb_value.specs.Tree.{array}
use Rattle.jsonb_value.specs.Value.{trees_of}
use Rattle.jsonb_value.specs.WellFormed.{IsTree}
use Rattle.jsonb_codec.specs.Canon.{Fits, canon}
use Rattle.jsonb_codec.specs.Doc.{Doc}
use Rattle.jsonb_codec.proofs.CanonLaws.{Doc-canon}
use Rattle.jsonb_functions.specs.PathDocument.{path_tree, step_tree, stored_step}
use Rattle.jsonb_functions.specs.StoredPath.{StepView, key, index, from_end, past_end, path_in}
use Rattle.jsonb_functions.specs.StoredPath.{step_in, step_then, steps_in}

step_read : (s : StepView) → step_in (step_tree s) ≡ Some (stored_step s)
step_read (key k) = refl
step_read (index i) = refl
step_read (from_end i) = refl
step_read past_end = refl

pub path_read : (path : List StepView) → path_in (path_tree path) ≡ Some (map stored_step path)
path_read [] = refl
path_read (s ∷ path) =
    ap (λ (first : Option StepView). step_then first (steps_in (trees_of (map step_tree path))))
    (step_read s)
    ∙ ap (λ (rest : Option (List StepView)). step_then (Some (stored_step s)) rest) (path_read path)

step_norm : (s : StepView) → norm (step_tree s) ≡ step_tree s
step_norm (key k) = refl
step_norm (index i) = refl
step_norm (from_end i) = refl
step_norm past_end = refl

steps_norm : (path : List StepView)
    → norms (trees_of (map step_tree path)) ≡ trees_of (map step_tree path)
steps_norm [] = refl
steps_norm (s ∷ path) = rw (step_norm s, steps_norm path) refl

pub path_means : (path : List StepView) → IsTree (path_tree path) → Fits (path_tree path)
    → Doc (canon (path_tree path)) (path_tree path)
path_means path is fits =
    subst (Doc (canon (path_tree path))) (ap array (steps_norm path))
    (Doc-canon (path_tree path) is fits)
