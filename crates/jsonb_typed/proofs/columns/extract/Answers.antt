use Rattle.std.proofs.Common.{◌≡◌, Err, rules, subst}
use Rattle.std.specs.Prelude.{Option}
use Rattle.jsonb_value.specs.Tree.{Tree}
use Rattle.jsonb_typed.specs.Cells.{IsCellAt, IsCellOf}
use Rattle.jsonb_typed.proofs.KeepingLaws.{only_memory}
use Rattle.jsonb_typed.proofs.RowLaws.{more_rows}
use Rattle.jsonb_typed.proofs.columns.extract.Goals as goal

-- The column has one row more.
pub loop-row-preserved : goal.loop-row-preserved
loop-row-preserved g c =
    let pushed = c.in_ok-push_member.ensures.pushed in
    let stands = g.T.ColumnType.stands c.args.column_type.now in
    more_rows (IsCellAt stands c.args.path.now) c.args.rows.now c.loop-row.row-index
    c.loop-row.column c.push_member.new.column pushed.0 c.row-item.result c.loop-row-test.true
    c.row-item.is pushed.1.0 c.loop-row.invariant
    (subst (λ (m : Option Tree). IsCellOf stands m pushed.0) c.member_of.ensures.value pushed.1.1)

-- The member of a document is refused for memory alone.
pub returns-in_err-push_member-clause-memory : goal.returns-in_err-push_member-clause-memory
returns-in_err-push_member-clause-memory g c =
    let e = c.in_err-push_member.field-0.0 in
    let refused : c.push_member.result ≡ Err e = search rules in
    let known = only_memory (g.T.ColumnType.stands c.args.column_type.now) c.member_of.result c.push_member.result e
    c.member_of.ensures.document c.push_member.ensures.limits refused in search rules
