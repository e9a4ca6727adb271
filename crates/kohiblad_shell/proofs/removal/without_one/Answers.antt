use Rattle.std.proofs.Common.{arith}
use Rattle.kohiblad_shell.proofs.RemovalLaws.{left_bytes, left_is_document, left_limits}
use Rattle.kohiblad_shell.proofs.removal.without_one.Goals as goal

pub returns-clause-ok : goal.returns-clause-ok
returns-clause-ok c = left_bytes _ _ _ _ c.new_unchecked.ensures c.edit_document.ensures.ok

pub returns-clause-document : goal.returns-clause-document
returns-clause-document c =
    left_is_document _ _ _ (λ i. omega (arith, c.type_inv.bytes i)) c.requires
    (left_bytes _ _ _ _ c.new_unchecked.ensures c.edit_document.ensures.ok)
    (left_limits _ _ _ _ c.new_unchecked.ensures c.edit_document.ensures.limits)

pub returns-clause-limits : goal.returns-clause-limits
returns-clause-limits c =
    left_limits _ _ _ _ c.new_unchecked.ensures c.edit_document.ensures.limits
