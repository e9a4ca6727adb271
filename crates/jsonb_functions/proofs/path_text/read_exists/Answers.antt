use Rattle.std.proofs.Common.{sym, ◌∙◌}
use Rattle.jsonb_functions.proofs.FilterTextLaws.{exists_read, no_exists_path, not_closed}
use Rattle.jsonb_functions.proofs.path_text.read_exists.Goals as goal

pub returns-in_default : goal.returns-in_default
returns-in_default c =
    no_exists_path c.args.is_wanted c.args.text.now
    (rw c.in_default.is at c.in_ok-path.ensures)

pub returns-in-Some-after_char : goal.returns-in-Some-after_char
returns-in-Some-after_char c =
    exists_read c.args.is_wanted c.args.text.now c.in-Some.path c.in-Some.end
    (rw c.in-Some.is at c.in_ok-path.ensures) c.exists_term.result c.in-Some-after_char.rest
    (sym c.after_spaces.ensures ∙ c.in-Some-after_char.ensures) c.exists_term.ensures

pub returns : goal.returns
returns c =
    not_closed c.args.is_wanted c.args.text.now c.in-Some.path c.in-Some.end
    (rw c.in-Some.is at c.in_ok-path.ensures)
    (λ rest e. c.in-None.ensures rest (c.after_spaces.ensures ∙ e))
