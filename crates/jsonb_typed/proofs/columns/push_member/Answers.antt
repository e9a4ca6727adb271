use Rattle.std.proofs.Common.{◌≡◌, rules}
use Rattle.std.specs.Prelude.{Some}
use Rattle.jsonb_codec.proofs.MadeLaws.{made_ok}
use Rattle.jsonb_typed.proofs.KeepingLaws.{kept_fits}
use Rattle.jsonb_typed.proofs.columns.push_member.Goals as goal

-- The member that is kept has a document.
pub returns-in_ok-push_other-in-None-clause-limits :
    goal.returns-in_ok-push_other-in-None-clause-limits
returns-in_ok-push_other-in-None-clause-limits g c =
    let is : c.args.member ≡ Some c.in-Some.member = search rules in
    made_ok tt
    (kept_fits (g.T.ColumnType.stands c.args.column_type.now) c.args.member c.in-Some.member is
    c.in_ok-document-in-None.ensures.limits.fits)
