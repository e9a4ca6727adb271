use Rattle.std.proofs.Common.{sym, ◌∙◌}
use Rattle.jsonb_codec.proofs.Decision.{known_part}
use Rattle.jsonb_functions.proofs.EditLaws.{part_tree_of}
use Rattle.jsonb_functions.proofs.array_sets.node_of.Goals as goal

pub returns : goal.returns
returns c =
    let (t, h) = known_part _ _ c.args.part.fact in
    c.of_part.ensures.means t h ∙ sym (part_tree_of c.args.part t h)
