use Rattle.std.proofs.Common.{◌-◌}
use Rattle.jsonb_value.specs.Text.{NoneEscaped}
use Rattle.jsonb_value.proofs.runs.is_plain_long.Given as goal

abbrev pub invariant-vectors : goal.invariant-vectors
invariant-vectors l = NoneEscaped l.bytes 0 l.at

abbrev pub decreases-vectors : goal.decreases-vectors
decreases-vectors l = l.last - l.at
