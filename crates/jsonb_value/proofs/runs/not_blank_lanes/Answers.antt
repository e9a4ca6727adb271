use Rattle.std.proofs.Common.{arith}
use Rattle.jsonb_value.proofs.BlankLaws.{mask_of_not_blank}
use Rattle.jsonb_value.proofs.runs.not_blank_lanes.Goals as goal

pub returns : goal.returns
returns g c = mask_of_not_blank c.args.lanes g.row.N (omega arith) c.requires
