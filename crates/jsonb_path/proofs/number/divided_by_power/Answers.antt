use Rattle.std.proofs.Common.{arith}
use Rattle.jsonb_path.proofs.RaisedLaws.{power_above_zero}
use Rattle.jsonb_path.proofs.number.divided_by_power.Goals as goal

pub nonzero_div-result : goal.nonzero_div-result
nonzero_div-result c = omega (arith, power_above_zero c.args.digits, c.in-Some.ensures)
