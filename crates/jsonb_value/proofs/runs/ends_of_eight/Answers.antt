use Rattle.std.proofs.lemmas.Simd.{pick_l_whole}
use Rattle.jsonb_value.specs.Text.{ends}
use Rattle.jsonb_value.proofs.RunLaws.{length-ends}
use Rattle.jsonb_value.proofs.runs.ends_of_eight.Goals as goal

pub returns : goal.returns
returns c = pick_l_whole 0 (ends 8 c.args.bytes.now) 16 (length-ends 8 c.args.bytes.now c.requires)
