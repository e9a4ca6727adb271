use Rattle.jsonb.specs.Node.{node_tree}
use Rattle.jsonb_path.specs.Found.{answered, left_of}
use Rattle.jsonb_path.proofs.FoundLaws.{step_on}
use Rattle.jsonb_path.proofs.method.append_answers.Goals as goal

pub loop-unit-preserved : goal.loop-unit-preserved
loop-unit-preserved c =
    step_on (answered c.args.method) (node_tree c.in-Some.unit)
    (left_of c.loop-unit.units) (left_of c.next_unit.new.self) c.in-Some.ensures
    c.loop-unit.found.items c.append_answer.new.found.items c.in_ok-append_answer.field-0 _
    c.loop-unit.invariant c.in_ok-append_answer.ensures
