-- The steps that were read, followed by those of the items that are left.
use Rattle.std.proofs.Common.{◌≡◌, ◌++◌, List, [], ◌∷◌, map, refl, sym, ap, ◌∙◌, append_assoc}
use Rattle.std.specs.Prelude.{Option, Some, None}
use Rattle.jsonb_value.specs.Tree.{Tree}
use Rattle.jsonb_value.specs.Value.{trees_of}
use Rattle.jsonb.specs.Node.{array_of}
use Rattle.jsonb_functions.specs.declared.path.Step.{Step}
use Rattle.jsonb_functions.specs.StoredPath.{StepView, step_view, step_in, steps_in, step_then}
use Rattle.jsonb_functions.specs.StoredPath.{path_in}
use Rattle.jsonb_functions.proofs.HashLaws.{map_joined}

-- Steps before others, if there are others.
abbrev pub steps_then : List StepView → Option (List StepView) → Option (List StepView)
steps_then before None = None
steps_then before (Some path) = Some (before ++ path)

none_before : (path : Option (List StepView)) → path ≡ steps_then [] path
none_before None = refl
none_before (Some path) = refl

one_moved : (before : List StepView) (s : StepView) (path : Option (List StepView))
    → steps_then before (step_then (Some s) path) ≡ steps_then (before ++ (s ∷ [])) path
one_moved before s None = refl
one_moved before s (Some path) = ap (λ x. Some x) (sym (append_assoc before (s ∷ []) path))

-- After one more step was read.
pub steps_on : (left others : List Tree) (t : Tree) (s : Step) (now new : List Step)
    (whole : Option (List StepView)) → left ≡ t ∷ others → Some (step_view s) ≡ step_in t
    → new ≡ now ++ (s ∷ [])
    → whole ≡ steps_then (map step_view now) (steps_in (trees_of left))
    → whole ≡ steps_then (map step_view new) (steps_in (trees_of others))
steps_on left others t s now new whole e f g h =
    h ∙ ap (λ x. steps_then (map step_view now) (steps_in (trees_of x))) e
    ∙ ap (λ x. steps_then (map step_view now) (step_then x (steps_in (trees_of others)))) (sym f)
    ∙ one_moved (map step_view now) (step_view s) (steps_in (trees_of others))
    ∙ ap (λ x. steps_then x (steps_in (trees_of others)))
    (sym (ap (λ x. map step_view x) g ∙ map_joined step_view now (s ∷ [])))

pub first_steps : (t : Tree) (ts : List Tree) → t ≡ array_of ts
    → path_in t ≡ steps_then [] (steps_in (trees_of ts))
first_steps t ts e = ap path_in e ∙ none_before (steps_in (trees_of ts))
