use Rattle.kohiblad_shell.proofs.RemovalLaws.{each_bytes, each_limits}
use Rattle.kohiblad_shell.proofs.removal.without_each.Goals as goal

pub returns-clause-ok : goal.returns-clause-ok
returns-clause-ok c = each_bytes _ _ _ _ c.new_unchecked.ensures c.edit_each.ensures.ok

pub returns-clause-limits : goal.returns-clause-limits
returns-clause-limits c = each_limits _ _ _ _ c.new_unchecked.ensures c.edit_each.ensures.limits
