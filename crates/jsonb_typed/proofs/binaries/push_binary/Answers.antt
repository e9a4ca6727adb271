use Rattle.std.proofs.Common.{◌≡◌, rules}
use Rattle.std.specs.Prelude.{Some}
use Rattle.typed_vector.specs.Cells.{other}
use Rattle.jsonb_typed.specs.Types.{IsBinary}
use Rattle.jsonb_typed.proofs.KeepingLaws.{other_cell}
use Rattle.jsonb_typed.proofs.binaries.push_binary.Goals as goal

-- The member that is no binary value is kept as a document.
pub returns-in_ok-push_other-in-None-clause-pushed :
    goal.returns-in_ok-push_other-in-None-clause-pushed
returns-in_ok-push_other-in-None-clause-pushed c =
    let is : c.args.member ≡ Some c.in-Some.member = search rules in
    let bytes = c.as_bytes.result.now in (
      other bytes,
      (
        c.in_ok-push_other-in-None.ensures.pushed,
        other_cell IsBinary c.args.member c.in-Some.member c.opened.result bytes is
            c.opened.ensures.tree c.in-None.ensures
            (rw c.as_bytes.ensures c.in_ok-document-in-None.ensures.means),
      ),
    )
