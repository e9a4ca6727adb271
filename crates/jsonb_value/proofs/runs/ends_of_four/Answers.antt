use Rattle.std.proofs.lemmas.Simd.{pick_l_whole}
use Rattle.jsonb_value.specs.Text.{ends}
use Rattle.jsonb_value.proofs.RunLaws.{length-ends}
use Rattle.jsonb_value.proofs.runs.ends_of_four.Goals as goal

pub returns : goal.returns
returns c = pick_l_whole 0 (ends 4 c.args.bytes.now) 8 (length-ends 4 c.args.bytes.now c.requires)
