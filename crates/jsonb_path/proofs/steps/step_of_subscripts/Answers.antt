use Rattle.jsonb_path.specs.PathTree.{nodes_of}
use Rattle.jsonb_path.proofs.StepLaws.{no_step}
use Rattle.jsonb_path.proofs.steps.step_of_subscripts.Goals as goal

pub returns-in-len2-up : goal.returns-in-len2-up
returns-in-len2-up c =
    no_step (nodes_of c.args.parts.now) c.args.subscripts.now c.in-len2-up.len_at_least
