use Rattle.std.proofs.Common.{arith, map}
use Rattle.jsonb_functions.specs.PathText.{selector_view}
use Rattle.jsonb_functions.proofs.PathLaws.{with_lists, with_one_list, without_steps}
use Rattle.jsonb_functions.proofs.path_text.read_path_text.Goals as goal

pub returns-in_default-clause-ok : goal.returns-in_default-clause-ok
returns-in_default-clause-ok c =
    without_steps c.args.text.now (rw c.in_default.is at c.in_ok-path.ensures)

pub returns-then-list_count-gt1-clause-ok : goal.returns-then-list_count-gt1-clause-ok
returns-then-list_count-gt1-clause-ok c =
    let counted = rw c.deref.ensures.value at c.list_count.ensures in
    with_lists c.args.text.now (map selector_view c.in-Some.path.items)
    (omega (arith, counted, c.if-list_count-gt1.true))
    (rw c.in-Some.is at c.in_ok-path.ensures)

pub returns-clause-ok : goal.returns-clause-ok
returns-clause-ok c =
    let counted = rw c.deref.ensures.value at c.list_count.ensures in
    with_one_list c.args.text.now (map selector_view c.in-Some.path.items)
    (omega (arith, counted, c.if-list_count-gt1.false))
    (rw c.in-Some.is at c.in_ok-path.ensures)
