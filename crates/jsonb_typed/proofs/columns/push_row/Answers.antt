use Rattle.std.proofs.Common.{◌≡◌, Err, rules, subst}
use Rattle.std.specs.Prelude.{Option}
use Rattle.jsonb_value.specs.Tree.{Tree}
use Rattle.jsonb_typed.specs.Cells.{IsCellOf}
use Rattle.jsonb_typed.proofs.KeepingLaws.{only_memory}
use Rattle.jsonb_typed.proofs.RowLaws.{cell_of_row}
use Rattle.jsonb_typed.proofs.columns.push_row.Goals as goal

pub returns-in_ok-push_member-in-Some-clause-pushed :
    goal.returns-in_ok-push_member-in-Some-clause-pushed
returns-in_ok-push_member-in-Some-clause-pushed g c =
    let pushed = c.in_ok-push_member-in-Some.ensures.pushed in
    let stands = g.T.ColumnType.stands c.args.column_type.now in (
      pushed.0,
      (
        pushed.1.0,
        cell_of_row stands c.args.path.now c.args.row.now c.in-Some.document pushed.0
            c.in-Some.ensures.bytes
            (subst (λ (m : Option Tree). IsCellOf stands m pushed.0) c.member_of.ensures.value
            pushed.1.1),
      ),
    )

-- The member of a document is refused for memory alone.
pub returns-in_err-push_member-in-Some-clause-memory :
    goal.returns-in_err-push_member-in-Some-clause-memory
returns-in_err-push_member-in-Some-clause-memory g c =
    let e = c.in_err-push_member-in-Some.field-0.0 in
    let refused : c.push_member.result ≡ Err e = search rules in
    let known = only_memory (g.T.ColumnType.stands c.args.column_type.now) c.member_of.result
    c.push_member.result e c.member_of.ensures.document c.push_member.ensures.limits refused in
    search rules
