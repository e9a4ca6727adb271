-- What is left of a search for what a tree contains.
use Rattle.std.specs.Prelude.{ℕ, Bool, Option, None, Some}
use Rattle.jsonb_value.specs.Tree.{Tree, Trees, Pairs, count}
use Rattle.jsonb_functions.specs.ContainSteps.{Work, and_on, are_many, both, items_work}
use Rattle.jsonb_functions.specs.ContainSteps.{sort_work, steps_alone}

-- What it takes to look for each of the first trees in the others.
abbrev pub array_work : Trees → Trees → Work
array_work us ts = both (sort_work (are_many (count us) (count ts)) ts)
    (items_work (are_many (count us) (count ts)) us ts)

-- What it takes to compare the value that was found, and to go on with the members after it.
abbrev pub found_work : (Tree → Bool) → (Tree → Work) → (Pairs → Work) → Pairs → Option Tree → Work
found_work passes work later ps None = steps_alone 0
found_work passes work later ps (Some t) = and_on (passes t) (work t) (later ps)

-- The length of what is compared, and 0 if nothing is.
abbrev pub length_or_none : Option ℕ → ℕ
length_or_none None = 0
length_or_none (Some n) = n
