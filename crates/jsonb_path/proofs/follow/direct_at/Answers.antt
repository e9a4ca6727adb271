use Rattle.std.proofs.Common.{◌≡◌, subst, take}
use Rattle.std.specs.Prelude.{IfSome, option_map, option_to_list}
use Rattle.jsonb.specs.Node.{node_tree}
use Rattle.jsonb_path.specs.Found.{place_of}
use Rattle.jsonb_path.specs.Meaning.{follow, gives, in_lax_unwrapped}
use Rattle.jsonb_path.specs.PathTree.{nodes_of}
use Rattle.jsonb_path.proofs.FollowLaws.{part_expression}
use Rattle.jsonb_path.proofs.follow.direct_at.Goals as goal

pub returns : goal.returns
returns c =
    let place = place_of c.args.place.now in
    subst (λ e. IfSome c.direct.result (λ v.
    in_lax_unwrapped c.args.place.now.mode (follow place e)
    ≡ gives (option_to_list (option_map node_tree v))))
    (part_expression c.args.parts.now c.args.at c.index-parts-at.result c.requires.place
    c.index-parts-at.is)
    (c.direct.ensures (nodes_of (take c.args.at c.args.parts.now)))
