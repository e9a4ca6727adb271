use Rattle.std.proofs.Common.{arith, ◌*◌, ◌^◌, ◌<◌}
use Rattle.std.proofs.Math.Nat.{mul-pos}
use Rattle.jsonb_path.proofs.RaisedLaws.{power_above_zero}
use Rattle.jsonb_path.proofs.number.rest_by_raised.Goals as goal

pub nonzero_rem-result : goal.nonzero_rem-result
nonzero_rem-result c =
    let above : 0 < c.args.divisor * 10 ^ c.args.zeros =
    mul-pos c.requires.least (power_above_zero c.args.zeros) in
    omega (arith, c.in-Some.ensures)
