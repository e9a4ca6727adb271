use Rattle.std.proofs.Common.{◌≡◌, ◌<◌, length, take, arith}
use Rattle.std.proofs.lemmas.Grind.{common_steps}
use Rattle.answer_lines.proofs.Output.{appends_nothing, prefix_of_all}
use Rattle.answer_lines.proofs.Running.{on_err}
use Rattle.kohiblad_shell.proofs.SortLaws.{all_written, no_row, on_ok, one_more_row}
use Rattle.kohiblad_shell.proofs.SortLaws.{row_breaks}
use Rattle.kohiblad_shell.specs.Sorts.{keyed_line}
use Rattle.kohiblad_shell.proofs.sort.write_rows.Goals as goal

pub loop-row-init : goal.loop-row-init
loop-row-init g c = appends_nothing _

pub returns-in_err-write_bytes-clause-err : goal.returns-in_err-write_bytes-clause-err
returns-in_err-write_bytes-clause-err g c =
    let low : c.loop-row.row-index < length c.args.rows.now = omega arith in
    on_err _ _
    (row_breaks keyed_line no_row c.args.rows.now c.loop-row.row-index low
    (g.W.Write.contents c.args.writer.now)
    (g.W.Write.contents c.loop-row.writer) (g.W.Write.contents c.write_bytes.new.writer)
    c.loop-row.invariant c.in_err-write_bytes.ensures.err)

pub loop-row-preserved : goal.loop-row-preserved
loop-row-preserved g c =
    let low : c.loop-row.row-index < length c.args.rows.now = omega arith in
    one_more_row keyed_line no_row c.args.rows.now c.loop-row.row-index low
    (g.W.Write.contents c.args.writer.now)
    (g.W.Write.contents c.loop-row.writer) (g.W.Write.contents c.write_bytes.new.writer)
    c.loop-row.invariant c.in_ok-write_bytes.ensures.ok

pub returns-clause-ok : goal.returns-clause-ok
returns-clause-ok g c =
    let all : take c.loop-row.row-index c.args.rows.now ≡ c.args.rows.now =
    grind (arith, common_steps) in
    on_ok _ (all_written _ _ _ _ (rw all at c.loop-row.invariant) c.flush.ensures.kept)

pub returns-clause-err : goal.returns-clause-err
returns-clause-err g c =
    let all : take c.loop-row.row-index c.args.rows.now ≡ c.args.rows.now =
    grind (arith, common_steps) in
    on_err _ _
    (prefix_of_all (all_written _ _ _ _ (rw all at c.loop-row.invariant) c.flush.ensures.kept))
