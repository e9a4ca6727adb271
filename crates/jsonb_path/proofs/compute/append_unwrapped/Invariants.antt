-- What was found so far, and after it what is left, is the whole.
use Rattle.std.proofs.Common.{◌≡◌, length}
use Rattle.std.specs.Prelude.{map}
use Rattle.jsonb.specs.Node.{node_tree}
use Rattle.jsonb_path.specs.declared.path.Mode.TheVariants.{Lax}
use Rattle.jsonb_path.specs.Found.{found_then}
use Rattle.jsonb_path.specs.Meaning.{all_unwrapped, gives}
use Rattle.jsonb_path.proofs.compute.append_unwrapped.Given as goal

abbrev pub invariant-loop-left : goal.invariant-loop-left
invariant-loop-left l =
    found_then l.found.items (gives (all_unwrapped Lax (map node_tree l.left)))
    ≡ found_then l.fn.found.items (gives (all_unwrapped Lax (map node_tree l.fn.values)))

abbrev pub decreases-loop-left : goal.decreases-loop-left
decreases-loop-left l = length l.left
