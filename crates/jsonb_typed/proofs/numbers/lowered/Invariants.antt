-- The quotient so far times the powers of ten that were taken out is the value.
use Rattle.std.proofs.Common.{◌≡◌, ◌^◌, pos, ◌*ℤ◌}
use Rattle.jsonb_typed.proofs.numbers.lowered.Given as goal

abbrev pub invariant-loop-step : goal.invariant-loop-step
invariant-loop-step l = l.lowered *ℤ pos (10 ^ l._step) ≡ l.value
