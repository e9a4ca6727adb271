-- What was found so far, and after it what is left, is the whole.
use Rattle.std.proofs.Common.{◌≡◌, length}
use Rattle.std.specs.Prelude.{map}
use Rattle.jsonb.specs.EntryTrees.{rest_pairs}
use Rattle.jsonb_path.specs.Found.{found_then, name_tree}
use Rattle.jsonb_path.specs.Meaning.{gives}
use Rattle.jsonb_path.proofs.ask.append_names.Given as goal

abbrev pub invariant-loop-name : goal.invariant-loop-name
invariant-loop-name l =
    found_then l.found.items (gives (map name_tree (rest_pairs l.left)))
    ≡ found_then l.fn.found.items (gives (map name_tree (rest_pairs l.fn.members)))

abbrev pub decreases-loop-name : goal.decreases-loop-name
decreases-loop-name l = length (rest_pairs l.left)
