-- The product so far times the remaining powers of ten is the whole product.
use Rattle.std.proofs.Common.{◌≡◌, ◌^◌, pos, ◌*ℤ◌, ◌-◌}
use Rattle.jsonb_typed.proofs.numbers.raised.Given as goal

abbrev pub invariant-loop-step : goal.invariant-loop-step
invariant-loop-step l = l.raised *ℤ pos (10 ^ (l.steps - l._step)) ≡ l.value *ℤ pos (10 ^ l.steps)
