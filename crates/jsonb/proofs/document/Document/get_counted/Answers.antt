use Rattle.std.proofs.Common.{None, Some, refl, ap}
use Rattle.jsonb.proofs.NodeLaws.{entry_found, found_tree_of}
use Rattle.jsonb.proofs.document.Document.get_counted.Goals as goal

pub returns-in_err-part-clause-entry : goal.returns-in_err-part-clause-entry
returns-in_err-part-clause-entry c =
    rw c.from_residual.ensures (entry_found _ _ _ _ _ None c.in_err-part.ensures.entry refl)

pub returns-clause-entry : goal.returns-clause-entry
returns-clause-entry c =
    entry_found _ _ _ _ _ (Some _) c.in_ok-part.ensures.entry
    (ap (λ x. Some x) c.of_part.ensures.item)

-- The tree is that of the entry.
pub returns-in_err-part-clause-value : goal.returns-in_err-part-clause-value
returns-in_err-part-clause-value c =
    found_tree_of _ _ _ _ c.from_residual.result (returns-in_err-part-clause-entry c)

pub returns-clause-value : goal.returns-clause-value
returns-clause-value c = found_tree_of _ _ _ _ (Some c.of_part.result) (returns-clause-entry c)
