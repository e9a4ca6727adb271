use Rattle.jsonb.specs.Node.{node_tree}
use Rattle.jsonb_path.specs.Found.{left_of}
use Rattle.jsonb_path.proofs.FoundLaws.{value_on}
use Rattle.jsonb_path.proofs.ask.append_units.Goals as goal

pub loop-unit-preserved : goal.loop-unit-preserved
loop-unit-preserved c =
    value_on (node_tree c.in-Some.unit) (left_of c.loop-unit.left) (left_of c.next_unit.new.self)
    c.in-Some.ensures c.loop-unit.found.items c.append.new.found.items c.in_ok-append.field-0 _
    c.loop-unit.invariant c.in_ok-append.ensures
