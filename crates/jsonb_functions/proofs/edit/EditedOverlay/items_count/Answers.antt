use Rattle.std.proofs.Common.{◌∙◌}
use Rattle.jsonb_functions.proofs.EditLaws.{items_count}
use Rattle.jsonb_functions.proofs.edit.EditedOverlay.items_count.Goals as goal

pub returns : goal.returns
returns c ts h =
    c.count_after.ensures ∙ items_count c.args.items _ ts h c.item_count.ensures.count
