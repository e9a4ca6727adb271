use Rattle.std.proofs.Common.{◌<◌, ◌^◌}
use Rattle.jsonb_comparable.specs.SplitDigits.{split_pairs, signed}
use Rattle.jsonb_comparable.proofs.Sinks.{Going}
use Rattle.jsonb_comparable.proofs.number.append_pairs.Given as goal

-- The digits of what is left of `high` are left, and those of `low`.
abbrev pub invariant-loop-left : goal.invariant-loop-left
invariant-loop-left g l = record {
  high : l.high < 100 ^ l.left;
  going : Going g.S.Sink.room g.S.Sink.appends l.fn.sink l.sink
      (signed l.fn.negative (split_pairs l.fn.pairs l.fn.high l.fn.low))
      (signed l.negative (split_pairs l.left l.high l.low));
}
