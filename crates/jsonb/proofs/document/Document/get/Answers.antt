use Rattle.std.proofs.Common.{Some, None, refl, ap}
use Rattle.jsonb.specs.EntryTrees.{entry_of_part}
use Rattle.jsonb.proofs.NodeLaws.{found_among, none_in_scalar, found_tree_of}
use Rattle.jsonb.proofs.document.Document.get.Goals as goal

pub returns-in_err-members-clause-entry : goal.returns-in_err-members-clause-entry
returns-in_err-members-clause-entry c =
    rw c.from_residual.ensures (none_in_scalar _ _ _ _ c.in_err-members.ensures.tree)

pub returns-in_err-part-clause-entry : goal.returns-in_err-part-clause-entry
returns-in_err-part-clause-entry c =
    rw c.from_residual-in_err-part.ensures
    (found_among _ _ _ _ c.in-Object.members None None
    (rw c.in-Object.is at c.in_ok-members.ensures.entries)
    (λ members are. c.in_err-part.ensures members are) refl)

pub returns-clause-entry : goal.returns-clause-entry
returns-clause-entry c =
    found_among _ _ _ _ c.in-Object.members (Some (entry_of_part c.in_ok-part.part))
    (Some _) (rw c.in-Object.is at c.in_ok-members.ensures.entries)
    (λ members are. c.in_ok-part.ensures members are) (ap (λ x. Some x) c.of_part.ensures.item)

-- The tree is that of the entry.
pub returns-in_err-part-clause-value : goal.returns-in_err-part-clause-value
returns-in_err-part-clause-value c =
    found_tree_of _ _ _ _ c.from_residual-in_err-part.result (returns-in_err-part-clause-entry c)

pub returns-clause-value : goal.returns-clause-value
returns-clause-value c = found_tree_of _ _ _ _ (Some c.of_part.result) (returns-clause-entry c)
