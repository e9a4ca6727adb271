-- The terms that are left come before those that came to the verdict, in which no more groups are
-- passed over than there were terms.
use Rattle.std.proofs.Common.{◌≡◌, ◌≤◌, ◌+◌, length}
use Rattle.jsonb.specs.Node.{node_tree}
use Rattle.jsonb_functions.specs.Filter.{verdict_before, verdict_of}
use Rattle.jsonb_functions.proofs.filter.verdict_of.Given as goal

abbrev pub invariant-loop-left : goal.invariant-loop-left
invariant-loop-left l = record {
  same : verdict_of (node_tree l.fn.node) l.fn.terms
      ≡ verdict_before (node_tree l.fn.node) l.verdict l.left;
  deep : l.verdict.passing + length l.left ≤ length l.fn.terms;
}

abbrev pub decreases-loop-left : goal.decreases-loop-left
decreases-loop-left l = length l.left
