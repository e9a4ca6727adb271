use Rattle.jsonb_functions.proofs.ConditionLaws.{condition_meets}
use Rattle.jsonb_functions.proofs.TreeLaws.{terms_made}
use Rattle.jsonb_functions.proofs.laws.condition_law.Goals as goal

pub returns : goal.returns
returns c = record { holds = condition_meets; written = terms_made }
