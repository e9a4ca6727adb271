-- What was found so far, and after it what is left, is the whole.
use Rattle.std.proofs.Common.{◌≡◌, ◌^◌, ◌≤◌, length}
use Rattle.std.specs.Prelude.{map}
use Rattle.jsonb.specs.Node.{node_tree}
use Rattle.jsonb_path.specs.Found.{found_then}
use Rattle.jsonb_path.specs.Meaning.{gives, taken}
use Rattle.jsonb_path.proofs.choose.append_listed.Given as goal

abbrev pub invariant-loop-left : goal.invariant-loop-left
invariant-loop-left l = record {
  found : found_then l.found.items
      (gives (taken l.at l.fn.first l.fn.last (map node_tree l.left)))
      ≡ found_then l.fn.found.items
      (gives (taken 0 l.fn.first l.fn.last (map node_tree l.fn.items)));
  most : l.at ≤ 2 ^ 31;
}

abbrev pub decreases-loop-left : goal.decreases-loop-left
decreases-loop-left l = length l.left
