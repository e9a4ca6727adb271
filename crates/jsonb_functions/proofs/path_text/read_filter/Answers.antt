use Rattle.std.proofs.Common.{sym, ◌∙◌}
use Rattle.jsonb_functions.proofs.TermLaws.{filter_read, no_open, no_terms}
use Rattle.jsonb_functions.proofs.path_text.read_filter.Goals as goal

pub returns-in_default : goal.returns-in_default
returns-in_default c =
    no_open c.args.text.now (λ inner e. c.in_default.ensures inner (c.after_spaces.ensures ∙ e))

pub returns-in_default-2 : goal.returns-in_default-2
returns-in_default-2 c =
    no_terms c.args.text.now c.in-Some.inner.now
    (sym c.after_spaces.ensures ∙ c.in-Some.ensures)
    (rw c.in_default-2.is at c.in_ok-terms.ensures)

pub returns : goal.returns
returns c =
    filter_read c.args.text.now c.in-Some.inner.now c.in-Some-2.terms c.in-Some-2.rest
    (sym c.after_spaces.ensures ∙ c.in-Some.ensures)
    (rw c.in-Some-2.is at c.in_ok-terms.ensures)
