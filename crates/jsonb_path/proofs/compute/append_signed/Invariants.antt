-- What was found so far, and after it what is left, is the whole.
use Rattle.std.proofs.Common.{◌≡◌, length}
use Rattle.std.specs.Prelude.{None, map}
use Rattle.jsonb.specs.Node.{node_tree}
use Rattle.jsonb_path.specs.declared.path.PathError.TheVariants.{NumberNotFound}
use Rattle.jsonb_path.specs.Found.{found_then}
use Rattle.jsonb_path.specs.Meaning.{calculated, each, of_number, signed_as}
use Rattle.jsonb_path.proofs.compute.append_signed.Given as goal

abbrev pub invariant-loop-left : goal.invariant-loop-left
invariant-loop-left l =
    let step = of_number NumberNotFound (λ x. calculated (signed_as l.fn.sign x)) in
    found_then l.found.items (each step (map node_tree l.left) None)
    ≡ found_then l.fn.found.items (each step (map node_tree l.fn.values) None)

abbrev pub decreases-loop-left : goal.decreases-loop-left
decreases-loop-left l = length l.left
