use Rattle.std.proofs.Common.{ap, map}
use Rattle.jsonb.specs.EntryTrees.{rest_pairs}
use Rattle.jsonb.specs.Node.{node_tree}
use Rattle.jsonb_path.specs.Found.{value_tree}
use Rattle.jsonb_path.proofs.FoundLaws.{value_on}
use Rattle.jsonb_path.proofs.ask.append_values.Goals as goal

pub loop-value-preserved : goal.loop-value-preserved
loop-value-preserved c =
    value_on (node_tree c.in-Some.value) (map value_tree (rest_pairs c.loop-value.left))
    (map value_tree (rest_pairs c.next_member.new.members)) (ap (map value_tree) c.in-Some.ensures)
    c.loop-value.found.items c.append.new.found.items c.in_ok-append.field-0 _
    c.loop-value.invariant c.in_ok-append.ensures
