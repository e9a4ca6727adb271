use Rattle.std.proofs.Common.{◌<◌, None, get_or, length, refl, sym, arith}
use Rattle.std.proofs.lemmas.List.{get_or_default}
use Rattle.answer_lines.proofs.Running.{on_err}
use Rattle.kohiblad_shell.specs.SortedRuns.{IsFirst, IsFirstInput}
use Rattle.kohiblad_shell.proofs.SortLaws.{on_ok}
use Rattle.kohiblad_shell.proofs.SortedRunEnds.{all_break, all_end, all_fault, all_go_on, all_stop}
use Rattle.kohiblad_shell.proofs.SortedRunEnds.{merging_starts, nothing_begins}
use Rattle.kohiblad_shell.proofs.sorted_run.merge_runs.Goals as goal

pub returns-in_err-heads-clause-beginning : goal.returns-in_err-heads-clause-beginning
returns-in_err-heads-clause-beginning g c =
    on_err _ _ (nothing_begins g.R.Read.remaining c.args.arrangement c.args.what c.args.runs.now
    (g.W.Write.contents c.args.writer.now))

pub merging-init : goal.merging-init
merging-init g c =
    merging_starts g.R.Read.remaining c.args.arrangement c.args.what c.args.runs.now
    c.put_in_turn.new.runs c.first_heads.new.runs c.in_ok-heads.heads.items _
    (g.W.Write.contents c.args.writer.now) c.put_in_turn.ensures refl c.first_heads.auto.runs
    c.in_ok-heads.ensures

pub returns-in_default-clause-done : goal.returns-in_default-clause-done
returns-in_default-clause-done g c =
    let none : IsFirstInput c.merging.heads.items c.args.arrangement.is_reversed
    (length c.merging.heads.items) None =
    rw (c.in_default.is, c.deref.ensures.value) at c.first_input.ensures in
    on_ok _
    (all_end g.R.Read.remaining c.args.arrangement c.args.what c.args.runs.now c.merging.runs
    c.merging.heads.items c.merging.last (g.W.Write.contents c.args.writer.now)
    (g.W.Write.contents c.merging.writer) c.merging.invariant none
    (g.W.Write.contents c.flush.new.writer) c.flush.ensures.kept)

pub returns-in_default-clause-beginning : goal.returns-in_default-clause-beginning
returns-in_default-clause-beginning g c =
    on_err _ _
    (all_stop g.R.Read.remaining c.args.arrangement c.args.what c.args.runs.now c.merging.runs
    c.merging.heads.items c.merging.last (g.W.Write.contents c.args.writer.now)
    (g.W.Write.contents c.merging.writer) c.merging.invariant
    (g.W.Write.contents c.flush.new.writer) c.flush.ensures.kept)

pub returns-in_err-write_new-clause-beginning : goal.returns-in_err-write_new-clause-beginning
returns-in_err-write_new-clause-beginning g c =
    let first : IsFirst c.merging.heads.items c.args.arrangement.is_reversed
    (length c.merging.heads.items) c.in-Some.input =
    rw (c.in-Some.is, c.deref.ensures.value) at c.first_input.ensures in
    on_err _ _
    (all_break g.R.Read.remaining c.args.arrangement c.args.what c.args.runs.now c.merging.runs
    c.merging.heads.items c.merging.last (g.W.Write.contents c.args.writer.now)
    (g.W.Write.contents c.merging.writer) c.merging.invariant c.in-Some.input first
    c.index.result.now (sym c.index.ensures) (g.W.Write.contents c.write_new.new.writer)
    c.in_err-write_new.ensures.err)

pub returns-in_err-read_head-clause-beginning : goal.returns-in_err-read_head-clause-beginning
returns-in_err-read_head-clause-beginning g c =
    let first : IsFirst c.merging.heads.items c.args.arrangement.is_reversed
    (length c.merging.heads.items) c.in-Some.input =
    rw (c.in-Some.is, c.deref.ensures.value) at c.first_input.ensures in
    on_err _ _
    (all_fault g.R.Read.remaining c.args.arrangement c.args.what c.args.runs.now c.merging.runs
    c.merging.heads.items c.merging.last (g.W.Write.contents c.args.writer.now)
    (g.W.Write.contents c.merging.writer) c.merging.invariant c.in-Some.input first
    c.index.result.now (sym c.index.ensures) (g.W.Write.contents c.write_new.new.writer)
    c.write_new.new.last c.in_ok-write_new.ensures.ok)

pub merging-preserved : goal.merging-preserved
merging-preserved g c =
    let first : IsFirst c.merging.heads.items c.args.arrangement.is_reversed
    (length c.merging.heads.items) c.in-Some.input =
    rw (c.in-Some.is, c.deref.ensures.value) at c.first_input.ensures in
    let low : c.in-Some.input < length c.merging.runs =
    omega (arith, first.low, c.merging.invariant.size) in
    let x = get_or c.merging.runs c.in-Some.input c.index-runs-input.result in
    all_go_on g.R.Read.remaining c.args.arrangement c.args.what c.args.runs.now c.merging.runs
    c.merging.heads.items c.merging.last (g.W.Write.contents c.args.writer.now)
    (g.W.Write.contents c.merging.writer) c.merging.invariant c.in-Some.input first
    c.index.result.now (sym c.index.ensures) (g.W.Write.contents c.write_new.new.writer)
    c.write_new.new.last c.in_ok-write_new.ensures.ok x c.read_head.new.run c.read_head.new.head
    (sym (get_or_default c.merging.runs c.in-Some.input c.index-runs-input.result x low))
    c.in_ok-read_head.ensures
