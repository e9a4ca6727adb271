-- The documents of paths.
use Rattle.std.specs.Prelude.{◌-◌, ◌^◌, min, List, map, negsuc}
use Rattle.jsonb_value.specs.declared.number.Number.TheVariants.{Int64, UInt64}
use Rattle.jsonb_value.specs.Tree.{Tree, number, text, array}
use Rattle.jsonb_value.specs.Value.{trees_of}
use Rattle.jsonb_functions.specs.StoredPath.{StepView, key, index, from_end, past_end, stored_index}

-- A step as a document stores it: the greatest index is the place past the last item, and an index
-- from the end is at most 2^63 - 1.
abbrev pub stored_step : StepView → StepView
stored_step (key k) = key k
stored_step (index i) = stored_index i
stored_step (from_end i) = from_end (min i (2 ^ 63 - 1))
stored_step past_end = past_end

-- The tree that gives a step: a text or a whole number, -1 for the last item, and the greatest of
-- 64 bits for the place past it.
abbrev pub step_tree : StepView → Tree
step_tree (key k) = text k
step_tree (index i) = number (UInt64 i)
step_tree (from_end i) = number (Int64 (negsuc (min i (2 ^ 63 - 1))))
step_tree past_end = number (UInt64 (2 ^ 64 - 1))

-- The tree that gives a path: the array of its steps.
abbrev pub path_tree : List StepView → Tree
path_tree path = array (trees_of (map step_tree path))
