use Rattle.jsonb_rows.proofs.EachLaws.{member_pushed}
use Rattle.jsonb_rows.proofs.each.push_member.Goals as goal

pub returns-in_ok-push-clause-ok : goal.returns-in_ok-push-clause-ok
returns-in_ok-push-clause-ok c =
    member_pushed _ _ c.in-Some.value _ _ c.in_ok-key.key c.in-Some.is c.in_ok-key.ensures.ok
    c.in_ok-push.ensures.items
