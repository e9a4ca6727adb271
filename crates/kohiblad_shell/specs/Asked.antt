-- What rows give that are asked by a path.
use Rattle.std.specs.Prelude.{◌-◌, ◌∷◌, Bool, true, false, List, [], Option, None, Some}
use Rattle.std.specs.Prelude.{if◌then◌else◌, length}
use Rattle.jsonb_value.specs.Tree.{Tree}
use Rattle.jsonb_path.specs.declared.compare.Truth.{Truth}
use Rattle.jsonb_path.specs.declared.compare.Truth.TheVariants.{True}
use Rattle.jsonb_path.specs.Meaning as meaning
use Rattle.jsonb_path.specs.Meaning.{exists_in, lone_truth}
use Rattle.jsonb_path.specs.PathParts.{PathParts, is_test}
use Rattle.jsonb_path.specs.PathTree.{path_means}

-- What a path gives of a row, without variables.
abbrev pub asked : PathParts → Tree → meaning.Outcome
asked path t = path_means path [] t

-- The first of these values.
abbrev pub first_of : List Tree → Option Tree
first_of [] = None
first_of (t ∷ ts) = Some t

-- The first value that a path gives. An error after it does not count, and one before it is none.
abbrev pub first_asked : PathParts → Tree → Option Tree
first_asked path t = first_of (asked path t).values

abbrev pub is_true : Truth → Bool
is_true True = true
is_true truth = false

abbrev pub is_surely : Option Truth → Bool
is_surely (Some truth) = is_true truth
is_surely None = false

-- Whether a row passes: the test is true of it, or the path is no test and gives a value.
abbrev pub passes_path : PathParts → Tree → Bool
passes_path path t = if is_test path.parts (length path.parts - 1)
    then is_surely (lone_truth (asked path t).values)
    else is_true (exists_in path.mode (asked path t))
