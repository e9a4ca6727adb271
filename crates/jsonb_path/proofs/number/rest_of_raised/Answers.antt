use Rattle.std.proofs.Common.{ap, ◌∙◌, ◌%◌, ◌*◌, ◌^◌}
use Rattle.jsonb_path.proofs.RaisedLaws.{tenfold, power_next}
use Rattle.jsonb_path.proofs.number.rest_of_raised.Goals as goal

pub loop-zero-preserved : goal.loop-zero-preserved
loop-zero-preserved c = (
  tenfold c.loop-zero.rest (c.args.magnitude * 10 ^ c.loop-zero._zero) c.args.divisor
      c.sum_within-twice.result c.sum_within-fourfold.result c.sum_within-fivefold.result
      c.sum_within-rest.result c.loop-zero.invariant.0 c.sum_within-twice.ensures.value
      c.sum_within-fourfold.ensures.value c.sum_within-fivefold.ensures.value
      c.sum_within-rest.ensures.value
      ∙ ap (λ n. n % c.args.divisor) (power_next c.args.magnitude c.loop-zero._zero),
  c.sum_within-rest.ensures.bound,
)
