use Rattle.std.proofs.Common.{◌++◌, sym, ap, ◌∙◌, map, option_map, arith}
use Rattle.std.proofs.lemmas.List.{length-map}
use Rattle.kohiblad_shell.specs.GroupRows.{group_object}
use Rattle.kohiblad_shell.specs.Groups.{seen_group}
use Rattle.kohiblad_shell.proofs.GroupRowLaws.{next_value, none_there, rows_end, rows_more}
use Rattle.kohiblad_shell.proofs.GroupRowLaws.{rows_stop}
use Rattle.kohiblad_shell.proofs.group_rows.group_rows.Goals as goal

pub returns-in_default-clause-rows : goal.returns-in_default-clause-rows
returns-in_default-clause-rows c =
    absurd
    (none_there c.args.grouper.now.groups c.loop-index.index
    (omega (arith, c.loop-index-test.true, c.len-index-end.ensures))
    (sym c.get.ensures ∙ ap (option_map seen_group) c.in_default.is))

pub returns-in-Err-clause-rows : goal.returns-in-Err-clause-rows
returns-in-Err-clause-rows c =
    rows_stop c.args.grouper.now.form
    (map (group_object c.args.paths.now c.args.grouper.now.aggregates.now)
    c.args.grouper.now.groups)
    c.loop-index.index
    (group_object c.args.paths.now c.args.grouper.now.aggregates.now (seen_group c.in-Some.group))
    c.loop-index.rows.items c.in-Err.unanswered
    (next_value (group_object c.args.paths.now c.args.grouper.now.aggregates.now)
    c.args.grouper.now.groups c.loop-index.index (seen_group c.in-Some.group)
    (sym c.in-Some.ensures))
    c.in-Err.ensures c.loop-index.invariant

pub loop-index-preserved : goal.loop-index-preserved
loop-index-preserved c =
    rows_more c.args.grouper.now.form
    (map (group_object c.args.paths.now c.args.grouper.now.aggregates.now)
    c.args.grouper.now.groups)
    c.loop-index.index
    (group_object c.args.paths.now c.args.grouper.now.aggregates.now (seen_group c.in-Some.group))
    c.loop-index.rows.items c.in-Ok.row.items c.extend_from_slice.new.self.items
    (next_value (group_object c.args.paths.now c.args.grouper.now.aggregates.now)
    c.args.grouper.now.groups c.loop-index.index (seen_group c.in-Some.group)
    (sym c.in-Some.ensures))
    c.in-Ok.ensures
    (c.in_ok-extend_from_slice-in-Ok.ensures.items
    ∙ ap (λ b. c.loop-index.rows.items ++ b) c.deref.ensures.value)
    c.loop-index.invariant

pub returns-clause-rows : goal.returns-clause-rows
returns-clause-rows c =
    rows_end c.args.grouper.now.form
    (map (group_object c.args.paths.now c.args.grouper.now.aggregates.now)
    c.args.grouper.now.groups)
    c.loop-index.index c.loop-index.rows.items
    (rw (length-map c.args.grouper.now.groups
    (group_object c.args.paths.now c.args.grouper.now.aggregates.now))
    (omega (arith, c.loop-index-test.false, c.len-index-end.ensures)))
    c.loop-index.invariant
