use Rattle.std.proofs.Common.{ap, map}
use Rattle.jsonb_value.specs.Tree.{text}
use Rattle.jsonb.specs.EntryTrees.{rest_pairs}
use Rattle.jsonb_path.specs.Found.{name_tree}
use Rattle.jsonb_path.proofs.FoundLaws.{value_on}
use Rattle.jsonb_path.proofs.ask.append_names.Goals as goal

pub loop-name-preserved : goal.loop-name-preserved
loop-name-preserved c =
    value_on (text c.in-Some.name.now) (map name_tree (rest_pairs c.loop-name.left))
    (map name_tree (rest_pairs c.next_member.new.members)) (ap (map name_tree) c.in-Some.ensures)
    c.loop-name.found.items c.append.new.found.items c.in_ok-append.field-0 _
    c.loop-name.invariant c.in_ok-append.ensures
