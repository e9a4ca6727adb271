use Rattle.std.proofs.Common.{◌≡◌, ◌-◌, ◌<◌, ◌∙◌, suc, drop, length, map}
use Rattle.std.proofs.Common.{sym, ap, arith, subst, None, Some}
use Rattle.jsonb_value.specs.Tree.{Ascends}
use Rattle.jsonb_typed_file.specs.Rows.{column_members}
use Rattle.jsonb_typed_file.specs.ValueViews.{members_view}
use Rattle.jsonb_typed_file.specs.Views.{buffers_view}
use Rattle.jsonb_typed_file.proofs.RowLaws.{members_above, no_members, rows_at}
use Rattle.jsonb_typed_file.proofs.RowLaws.{texts_at}
use Rattle.jsonb_typed_file.proofs.row.members.Goals as goal

pub loop-left-init : goal.loop-left-init
loop-left-init c = record {
  all = ap members_view c.new-members.ensures.empty ∙ no_members c.args.columns.now c.args.index;
  few = omega arith;
}

pub cell-requires-clause-size : goal.cell-requires-clause-size
cell-requires-clause-size c =
    let low : c.loop-left.left - 1 < length c.args.columns.now =
    omega (arith, c.loop-left-test.true, c.loop-left.invariant.few) in
    rows_at c.args.rows c.args.columns.now _ _ low c.requires.size

pub cell-requires-clause-texts : goal.cell-requires-clause-texts
cell-requires-clause-texts c =
    let low : c.loop-left.left - 1 < length c.args.columns.now =
    omega (arith, c.loop-left-test.true, c.loop-left.invariant.few) in
    texts_at c.args.rows c.args.columns.now _ _ low c.requires.texts

pub insert_first-requires : goal.insert_first-requires
insert_first-requires c =
    let columns = c.args.columns.now in let left = c.loop-left.left in
    let low : left - 1 < length columns =
    omega (arith, c.loop-left-test.true, c.loop-left.invariant.few) in
    let next : left ≡ suc (left - 1) = omega (arith, c.loop-left-test.true) in
    let was = c.loop-left.invariant.all
    ∙ ap (λ n. column_members (map buffers_view (drop n columns)) c.args.index) next in
    subst (Ascends (Some _)) (sym was)
    (members_above None columns (left - 1) _ c.args.index low c.requires.names)
