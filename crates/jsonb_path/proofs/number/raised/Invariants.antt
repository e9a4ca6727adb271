-- The digits so far times the zeros that are left are the digits with all zeros.
use Rattle.std.proofs.Common.{◌≡◌, ◌*◌, ◌^◌, ◌-◌, ◌<◌}
use Rattle.jsonb_path.proofs.number.raised.Given as goal

abbrev pub invariant-loop-zero : goal.invariant-loop-zero
invariant-loop-zero l =
    (l.raised * 10 ^ (l.zeros - l._zero) ≡ l.magnitude * 10 ^ l.zeros) × (l.raised < 2 ^ 128)
