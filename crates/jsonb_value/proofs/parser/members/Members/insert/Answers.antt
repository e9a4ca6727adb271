use Rattle.std.proofs.Common.{arith}
use Rattle.jsonb_value.proofs.MemberLaws.{with_members-push}
use Rattle.jsonb_value.proofs.parser.members.Members.insert.Goals as goal

pub returns-in_ok-push-clause-ok : goal.returns-in_ok-push-clause-ok
returns-in_ok-push-clause-ok c =
    grind (arith, with_members-push)
