use Rattle.jsonb_path.specs.PathTree.{primary_of}
use Rattle.jsonb_path.proofs.StepLaws.{no_index}
use Rattle.jsonb_path.proofs.steps.step_of_chain.Goals as goal

pub returns-in-len1-up : goal.returns-in-len1-up
returns-in-len1-up c nodes =
    no_index (primary_of nodes c.args.source.now) nodes c.args.accessors.now c.in-len1-up.len_at_least
