use Rattle.jsonb_functions.proofs.PathLaws.{filter_path_read, no_steps, not_single, single_path}
use Rattle.jsonb_functions.proofs.path_text.read_filter_path.Goals as goal

pub returns-in_default : goal.returns-in_default
returns-in_default c =
    no_steps c.args.text.now (rw c.in_default.is at c.in_ok-path.ensures)

pub returns-in-Some-single : goal.returns-in-Some-single
returns-in-Some-single c =
    filter_path_read c.args.text.now c.in-Some.path c.in-Some.end
    (rw c.in-Some.is at c.in_ok-path.ensures) c.in-Some-single.steps
    (single_path c.in-Some.path c.deref.result.now c.deref.ensures.value _
    (rw c.in-Some-single.is at c.in-Ok.ensures.ok))

pub returns : goal.returns
returns c =
    not_single c.args.text.now c.in-Some.path c.in-Some.end
    (rw c.in-Some.is at c.in_ok-path.ensures)
    (single_path c.in-Some.path c.deref.result.now c.deref.ensures.value _
    (rw c.in-None.is at c.in-Ok.ensures.ok))
