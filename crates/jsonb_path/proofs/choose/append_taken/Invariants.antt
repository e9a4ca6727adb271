-- What was found so far, and after it what is left, is the whole.
use Rattle.std.proofs.Common.{◌≡◌, ◌^◌, ◌≤◌, length}
use Rattle.jsonb_path.specs.Found.{found_then, left_of}
use Rattle.jsonb_path.specs.Meaning.{gives, taken}
use Rattle.jsonb_path.proofs.choose.append_taken.Given as goal

abbrev pub invariant-loop-item : goal.invariant-loop-item
invariant-loop-item l = record {
  found : found_then l.found.items (gives (taken l.at l.fn.first l.fn.last (left_of l.left)))
      ≡ found_then l.fn.found.items (gives (taken 0 l.fn.first l.fn.last (left_of l.fn.items)));
  most : l.at ≤ 2 ^ 31;
}

abbrev pub decreases-loop-item : goal.decreases-loop-item
decreases-loop-item l = length (left_of l.left)
