use Rattle.jsonb_typed.proofs.OneValueLaws.{one_value}
use Rattle.jsonb_typed.proofs.RestLaws.{all_leave_null, first_holds}
use Rattle.jsonb_typed.proofs.laws.least_laws.Goals as goal

pub returns : goal.returns
returns c = record { held = first_holds; rest = all_leave_null; one = one_value }
