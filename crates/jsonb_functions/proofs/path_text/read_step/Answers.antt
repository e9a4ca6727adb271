use Rattle.std.proofs.Common.{sym, ◌∙◌}
use Rattle.jsonb_functions.proofs.PathLaws.{if_filter, no_filter}
use Rattle.jsonb_functions.proofs.path_text.read_step.Goals as goal

pub returns-in-Some : goal.returns-in-Some
returns-in-Some c =
    if_filter c.args.text.now c.in-Some.condition.now c.read_filter.result
    (sym c.after_spaces.ensures ∙ c.in-Some.ensures) c.read_filter.ensures

pub returns-in-None : goal.returns-in-None
returns-in-None c =
    no_filter c.args.text.now c.read_written.result
    (λ later e. c.in-None.ensures later (c.after_spaces.ensures ∙ e)) c.read_written.ensures
