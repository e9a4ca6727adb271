use Rattle.std.proofs.Common.{sym, ap, ◌∙◌}
use Rattle.jsonb_value.specs.Tree.{count}
use Rattle.jsonb_functions.proofs.StripLaws.{count_stripped}
use Rattle.jsonb_functions.proofs.strip.StrippedOverlay.items_count.Goals as goal

pub returns : goal.returns
returns c ts (us, (h, e)) =
    c.item_count.ensures.count us h ∙ sym (ap count e ∙ count_stripped us)
