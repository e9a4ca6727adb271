use Rattle.std.proofs.Common.{◌-◌, ◌<◌, ◌≤◌, ◌^◌}
use Rattle.jsonb_comparable.proofs.number.count_pairs.Given as goal

-- The number has more pairs than were tried.
abbrev pub invariant-loop-pairs : goal.invariant-loop-pairs
invariant-loop-pairs l = 0 < l.pairs → 100 ^ (l.pairs - 1) ≤ l.number
