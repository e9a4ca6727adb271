use Rattle.jsonb_value.proofs.DepthLaws.{depth_of_spelled}
use Rattle.jsonb_value.proofs.Json.Allowed.{text_allowed}
use Rattle.jsonb_value.proofs.Json.SpelledLaws.{same_meaning}
use Rattle.jsonb_value.proofs.laws.json_laws.Goals as goal

pub returns : goal.returns
returns c = record { one_tree = same_meaning; same = text_allowed; depth = depth_of_spelled }
