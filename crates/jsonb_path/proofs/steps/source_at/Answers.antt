use Rattle.std.proofs.Common.{◌∙◌, ap, take}
use Rattle.jsonb_path.specs.PathTree.{nodes_of}
use Rattle.jsonb_path.specs.Steps.{primary_alone}
use Rattle.jsonb_path.proofs.FollowLaws.{part_expression}
use Rattle.jsonb_path.proofs.PathTreeLaws.{expression_within}
use Rattle.jsonb_path.proofs.steps.source_at.Goals as goal

pub returns : goal.returns
returns c =
    let ps = c.args.parts.now in
    let at = c.args.at in
    c.source_alone.ensures (nodes_of (take at ps))
    ∙ ap primary_alone (part_expression ps at c.index-parts-at.result
    (expression_within ps at c.requires) c.index-parts-at.is)
