-- What is left of both makes the same members.
use Rattle.std.proofs.Common.{◌≤◌}
use Rattle.jsonb_value.specs.Tree.{Pairs}
use Rattle.jsonb_functions.specs.Patched.{pairs_patched}
use Rattle.jsonb_functions.specs.PatchSource.{AreBoth, AreLeft, both_size, both_keys_size}
use Rattle.jsonb_functions.proofs.patch.next_member.Given as goal

abbrev pub invariant-loop-next : goal.invariant-loop-next
invariant-loop-next l = record {
  same : (ps qs : Pairs) → AreBoth l.fn.members ps qs → AreLeft (pairs_patched ps qs) l.left;
  size : both_size l.left ≤ both_size l.fn.members;
  keys : both_keys_size l.left ≤ both_keys_size l.fn.members;
}

abbrev pub decreases-loop-next : goal.decreases-loop-next
decreases-loop-next l = both_size l.left
