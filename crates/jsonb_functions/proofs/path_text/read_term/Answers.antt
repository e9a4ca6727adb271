use Rattle.std.proofs.Common.{sym, ◌∙◌, ap}
use Rattle.jsonb_functions.specs.PathText.{exists_in, mark_in}
use Rattle.jsonb_functions.proofs.TermLaws.{if_exists, if_test, mark_read}
use Rattle.jsonb_functions.proofs.path_text.read_term.Goals as goal

pub returns-in-Some : goal.returns-in-Some
returns-in-Some c =
    if_test c.args.text.now c.in-Some.test.now c.read_test.result
    (sym c.after_spaces-start.ensures ∙ c.in-Some.ensures) c.read_test.ensures

pub returns-in-Some-after_exists : goal.returns-in-Some-after_exists
returns-in-Some-after_exists c =
    if_exists c.args.text.now c.in-Some-after_exists.path.now c.in-Some-after_exists.is_wanted
    c.read_exists.result
    (ap exists_in (sym c.after_spaces-start.ensures) ∙ sym c.in-Some-after_exists.ensures)
    c.read_exists.ensures

pub returns-in-None : goal.returns-in-None
returns-in-None c =
    mark_read c.args.text.now c.read_mark.result
    (λ inner e. c.in_default.ensures inner (c.after_spaces-start.ensures ∙ e))
    (ap exists_in (sym c.after_spaces-start.ensures) ∙ sym c.in-None.ensures)
    (c.read_mark.ensures ∙ ap mark_in c.after_spaces-start.ensures)
