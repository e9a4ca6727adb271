-- The rest so far is that of the digits with the zeros so far.
use Rattle.std.proofs.Common.{◌≡◌, ◌*◌, ◌^◌, ◌%◌, ◌<◌}
use Rattle.jsonb_path.proofs.number.rest_of_raised.Given as goal

abbrev pub invariant-loop-zero : goal.invariant-loop-zero
invariant-loop-zero l =
    (l.rest ≡ (l.magnitude * 10 ^ l._zero) % l.divisor) × (l.rest < l.divisor)
