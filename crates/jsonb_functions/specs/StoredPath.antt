-- The paths that documents give.
use Rattle.std.specs.Prelude.{ℕ, ◌-◌, ◌^◌, ◌==◌, if◌then◌else◌, List, [], ◌∷◌, Option, None, Some}
use Rattle.std.specs.Prelude.{ℤ, pos, negsuc}
use Rattle.jsonb_value.specs.declared.number.Number.TheVariants.{Int64, UInt64}
use Rattle.jsonb_value.specs.Tree.{Tree, number, text, array}
use Rattle.jsonb_value.specs.Tree.{Trees, no_trees, tree}
use Rattle.jsonb_functions.specs.declared.path.Step.{Step}
use Rattle.jsonb_functions.specs.declared.path.Step.TheVariants.{Key, Index, FromEnd, End}

-- A step, without where its key is stored.
pub data StepView : Type 0 where
  key : List ℕ → StepView
  index : ℕ → StepView
  from_end : ℕ → StepView
  past_end : StepView

abbrev pub step_view : Step → StepView
step_view (Key k) = key k.now
step_view (Index i) = index i
step_view (FromEnd i) = from_end i
step_view End = past_end

-- The step to an item: -1 is the last one.
abbrev pub step_to : ℤ → StepView
step_to (pos n) = index n
step_to (negsuc n) = from_end n

-- The step that a number gives: the greatest of 64 bits is the place past the last item.
abbrev pub stored_index : ℕ → StepView
stored_index n = if n == 2 ^ 64 - 1 then past_end else index n

-- The step that a tree gives: a text, or a whole number of 64 bits.
abbrev pub step_in : Tree → Option StepView
step_in (text s) = Some (key s)
step_in (number (UInt64 n)) = Some (stored_index n)
step_in (number (Int64 z)) = Some (step_to z)
step_in t = None

-- A step before others, if there are both.
abbrev pub step_then : Option StepView → Option (List StepView) → Option (List StepView)
step_then (Some s) (Some path) = Some (s ∷ path)
step_then (Some s) None = None
step_then None path = None

-- The steps that these trees give, if each gives one.
abbrev pub steps_in : Trees → Option (List StepView)
steps_in no_trees = Some []
steps_in (tree t ts) = step_then (step_in t) (steps_in ts)

-- The path that a tree gives: the steps of an array's items.
abbrev pub path_in : Tree → Option (List StepView)
path_in (array ts) = steps_in ts
path_in t = None
