-- What was counted and what is left make the whole.
use Rattle.std.proofs.Common.{◌≡◌, ◌≤◌, ◌+◌}
use Rattle.jsonb_value.specs.Tree.{Pairs, pair_count}
use Rattle.jsonb_functions.specs.Patched.{pairs_patched}
use Rattle.jsonb_functions.specs.PatchSource.{AreBoth, both_keys_size}
use Rattle.jsonb_functions.proofs.patch.count_patched.Given as goal

abbrev pub invariant-loop-next : goal.invariant-loop-next
invariant-loop-next l = record {
  counted : (ps qs : Pairs) → AreBoth l.fn.members ps qs
      → (rs : Pairs) × ((us : Pairs) × (AreBoth l.left rs us
      × (pair_count (pairs_patched ps qs) ≡ l.count + pair_count (pairs_patched rs us))));
  bound : l.count + both_keys_size l.left ≤ both_keys_size l.fn.members;
}

abbrev pub decreases-loop-next : goal.decreases-loop-next
decreases-loop-next l = both_keys_size l.left
