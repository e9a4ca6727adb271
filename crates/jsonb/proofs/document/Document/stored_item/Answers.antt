use Rattle.jsonb.proofs.NodeLaws.{item_among, no_item}
use Rattle.jsonb.proofs.document.Document.stored_item.Goals as goal

pub returns-in_err-stored_items-clause-entry : goal.returns-in_err-stored_items-clause-entry
returns-in_err-stored_items-clause-entry c =
    rw c.from_residual.ensures (no_item _ _ _ c.in_err-stored_items.ensures.tree)

pub returns-clause-entry : goal.returns-clause-entry
returns-clause-entry c =
    item_among _ _ _ _ _ c.in_ok-stored_items.ensures.entries c.item_at.ensures.entry
