-- The parts of a list.
use Rattle.std.proofs.Common.{◌≡◌, List, [], ◌∷◌, length, refl, arith}
use Rattle.jsonb_value.specs.Tree as trees
use Rattle.jsonb_codec.specs.declared.parts.Part.{Part}
use Rattle.jsonb_functions.specs.ChosenSource.{listed_trees}

pub count_listed : (list : List Part) → length list ≡ trees.count (listed_trees list)
count_listed [] = refl
count_listed (part ∷ list) = omega (arith, count_listed list)
