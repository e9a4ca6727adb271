use Rattle.jsonb_functions.proofs.ScalarLaws.{plain_weight}
use Rattle.jsonb_functions.proofs.scalars.cost_of.Goals as goal

pub returns-in_default : goal.returns-in_default
returns-in_default c =
    plain_weight c.args.scalar c.in_default.not-String c.in_default.not-Extension c.requires
