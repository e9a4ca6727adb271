use Rattle.std.proofs.Common.{◌≡◌, rules}
use Rattle.std.specs.Prelude.{Some}
use Rattle.jsonb_codec.proofs.MadeLaws.{made_ok}
use Rattle.typed_vector.specs.Cells.{other}
use Rattle.jsonb_typed.specs.Types.{IsText}
use Rattle.jsonb_typed.proofs.KeepingLaws.{kept_fits, no_text, other_cell}
use Rattle.jsonb_typed.proofs.texts.push_text.Goals as goal

-- The member that is no text is kept as a document.
pub returns-in_ok-push_other-in_default-opened : goal.returns-in_ok-push_other-in_default-opened
returns-in_ok-push_other-in_default-opened c =
    let is : c.args.member ≡ Some c.in-Some.member = search rules in
    let bytes = c.as_bytes.result.now in
    let none = no_text c.opened.result c.in_default-opened.not-String c.opened.ensures.container in
    record {
      pushed = (
        other bytes,
        (
          c.in_ok-push_other-in_default-opened.ensures.pushed,
          other_cell IsText c.args.member c.in-Some.member c.opened.result bytes is
              c.opened.ensures.tree none
              (rw c.as_bytes.ensures c.in_ok-document-in_default-opened.ensures.means),
        ),
      );
      kept = tt;
      limits = made_ok tt
          (kept_fits IsText c.args.member c.in-Some.member is
          c.in_ok-document-in_default-opened.ensures.limits.fits);
    }
