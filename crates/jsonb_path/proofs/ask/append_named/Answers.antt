use Rattle.jsonb.specs.Node.{node_tree}
use Rattle.jsonb_path.specs.Found.{left_of, place_of}
use Rattle.jsonb_path.specs.Meaning.{member_of}
use Rattle.jsonb_path.proofs.FoundLaws.{step_on}
use Rattle.jsonb_path.proofs.ask.append_named.Goals as goal

pub loop-unit-preserved : goal.loop-unit-preserved
loop-unit-preserved c =
    step_on (member_of (place_of c.args.place.now) c.args.name.now) (node_tree c.in-Some.unit)
    (left_of c.loop-unit.units) (left_of c.next_unit.new.self) c.in-Some.ensures
    c.loop-unit.found.items c.append_member.new.found.items c.in_ok-append_member.field-0 _
    c.loop-unit.invariant c.in_ok-append_member.ensures
