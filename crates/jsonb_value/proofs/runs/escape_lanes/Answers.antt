use Rattle.std.proofs.Common.{arith}
use Rattle.jsonb_value.proofs.RunLaws.{mask_of_escaped}
use Rattle.jsonb_value.proofs.runs.escape_lanes.Goals as goal

pub returns : goal.returns
returns g c = mask_of_escaped c.args.lanes g.row.N (omega arith) c.requires
