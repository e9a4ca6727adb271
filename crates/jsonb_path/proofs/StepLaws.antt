-- The steps that were found, and after them those of the accessors that are left.
use Rattle.std.proofs.Common.{◌≡◌, ℕ, ◌≤◌, List, [], ◌∷◌, ◌++◌, arith, length, map, refl}
use Rattle.std.specs.Prelude.{Option, None, Some, option_map}
use Rattle.jsonb_functions.specs.declared.path.Step.{Step}
use Rattle.jsonb_functions.specs.StoredPath.{StepView, step_view}
use Rattle.jsonb_path.specs.declared.path.Accessor.{Accessor}
use Rattle.jsonb_path.specs.declared.path.Subscript.{Subscript}
use Rattle.jsonb_path.specs.PathTree.{PathNode, accessors_of, subscript_onto, subscripts_of}
use Rattle.jsonb_path.specs.Steps.{primary_alone, step_of_index, step_of_subscripts}
use Rattle.jsonb_path.specs.Syntax.{Primary, Subscripts}
use Rattle.jsonb_path.specs.Syntax as syntax
use Rattle.jsonb_path.proofs.FollowLaws.{part_expression}
use Rattle.jsonb_path.proofs.PathTreeLaws.{expression_within, part_at, parts_before}

-- Steps before others, if there are others.
abbrev pub behind : List Step → Option (List StepView) → Option (List StepView)
behind found rest = option_map (λ x. map step_view found ++ x) rest

-- ---- what is no step

pub no_index : (p : Primary) (nodes : List PathNode) (xs : List Accessor) → 1 ≤ length xs
    → None ≡ step_of_index (syntax.chain p (accessors_of nodes xs))
no_index p nodes [] any = absurd (omega (arith, any))
no_index p nodes (x ∷ xs) any = refl

pub not_alone : (p : Primary) (nodes : List PathNode) (xs : List Accessor) → 1 ≤ length xs
    → None ≡ primary_alone (syntax.chain p (accessors_of nodes xs))
not_alone p nodes [] any = absurd (omega (arith, any))
not_alone p nodes (x ∷ xs) any = refl

no_step_of : (nodes : List PathNode) (i j : ℕ) (l m : Option ℕ) (rest : Subscripts)
    → None ≡ step_of_subscripts (subscript_onto nodes i l (subscript_onto nodes j m rest))
no_step_of nodes i j None None rest = refl
no_step_of nodes i j None (Some n) rest = refl
no_step_of nodes i j (Some k) None rest = refl
no_step_of nodes i j (Some k) (Some n) rest = refl

pub no_step : (nodes : List PathNode) (xs : List Subscript) → 2 ≤ length xs
    → None ≡ step_of_subscripts (subscripts_of nodes xs)
no_step nodes [] many = absurd (omega (arith, many))
no_step nodes (x ∷ []) many = absurd (omega (arith, many))
no_step nodes (x ∷ y ∷ xs) many =
    no_step_of nodes x.first y.first x.last y.last (subscripts_of nodes xs)

pub ruleset part_here = (part_expression, expression_within, part_at, parts_before)
