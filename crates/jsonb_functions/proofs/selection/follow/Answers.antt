use Rattle.std.proofs.Common.{arith, rules}
use Rattle.jsonb.specs.Node.{node_tree}
use Rattle.jsonb_functions.specs.SelectSteps.{extents}
use Rattle.jsonb_functions.proofs.SelectStepLaws.{first_extent}
use Rattle.jsonb_functions.proofs.StepLaws.{takes_more}
use Rattle.jsonb_functions.proofs.selection.follow.Goals as goal

pub returns-in_err-take : goal.returns-in_err-take
returns-in_err-take c =
    let first = first_extent c.loop-step.left.now (node_tree c.loop-step.node) in
    takes_more _ _ (extents c.args.path.now (node_tree c.args.start)) c.args.steps.now _
    (search rules) c.in_err-take.ensures.0
    (omega (arith, c.in_err-take.ensures.1, first, c.loop-step.invariant, c.extent_of.ensures))
