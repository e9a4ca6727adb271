use Rattle.jsonb.proofs.EntryTreeLaws.{members_of-object}
use Rattle.jsonb.proofs.document.Document.members.Goals as goal

pub returns : goal.returns
returns c = members_of-object _ _ (rw c.in-Object.is at c.in_ok-members.ensures.tree)
