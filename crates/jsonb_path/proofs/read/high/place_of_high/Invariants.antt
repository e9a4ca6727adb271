-- As many tokens as are enough are there.
use Rattle.std.proofs.Common.{◌≤◌, ◌-◌, length}
use Rattle.jsonb_path.proofs.read.high.place_of_high.Given as goal

abbrev pub invariant-halves : goal.invariant-halves
invariant-halves l = record {
  ordered : l.fewest ≤ l.enough;
  within : l.enough ≤ length l.tokens;
}

abbrev pub decreases-halves : goal.decreases-halves
decreases-halves l = l.enough - l.fewest
