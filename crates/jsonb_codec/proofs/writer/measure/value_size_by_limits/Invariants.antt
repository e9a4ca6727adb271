use Rattle.std.proofs.Common.{◌<◌, ◌-◌}
use Rattle.jsonb_codec.proofs.writer.measure.value_size_by_limits.Given as goal

abbrev pub invariant-loop-limit : goal.invariant-loop-limit
invariant-loop-limit g l = 0 < l.limit

abbrev pub decreases-loop-limit : goal.decreases-loop-limit
decreases-loop-limit g l = l.fn.left - l.limit
