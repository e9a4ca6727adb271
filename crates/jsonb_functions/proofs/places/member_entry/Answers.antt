use Rattle.std.proofs.Common.{sym, ◌∙◌}
use Rattle.jsonb_functions.proofs.PathPlaceLaws.{member_unread}
use Rattle.jsonb_functions.proofs.places.member_entry.Goals as goal

pub returns-in_default-over_values-clause-value : goal.returns-in_default-over_values-clause-value
returns-in_default-over_values-clause-value c =
    member_unread c.args.step c.in-Key.name c.args.bytes.now c.args.count
    c.in_default-over_values.field-0 c.in-Key.is
    (sym c.over_values.ensures ∙ c.in_default-over_values.is)
