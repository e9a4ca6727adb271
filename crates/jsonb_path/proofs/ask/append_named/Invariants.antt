-- What was found so far, and after it what is left, is the whole.
use Rattle.std.proofs.Common.{◌≡◌, length}
use Rattle.std.specs.Prelude.{None}
use Rattle.jsonb.specs.Node.{node_tree}
use Rattle.jsonb_path.specs.Found.{found_then, left_of, place_of}
use Rattle.jsonb_path.specs.Meaning.{each, member_of, of_each}
use Rattle.jsonb_path.proofs.ask.append_named.Given as goal

abbrev pub invariant-loop-unit : goal.invariant-loop-unit
invariant-loop-unit l =
    let step = member_of (place_of l.fn.place) l.fn.name in
    found_then l.found.items (each step (left_of l.units) None)
    ≡ found_then l.fn.found.items (of_each (place_of l.fn.place) step (node_tree l.fn.node))

abbrev pub decreases-loop-unit : goal.decreases-loop-unit
decreases-loop-unit l = length (left_of l.units)
