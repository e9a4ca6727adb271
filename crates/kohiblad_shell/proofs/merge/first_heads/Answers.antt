use Rattle.std.proofs.Common.{◌≡◌, ◌<◌, Err, [], ◌∷◌, ◌++◌, get_or, length, sym, ◌∙◌, arith, rules}
use Rattle.std.proofs.lemmas.List.{get_or_default}
use Rattle.kohiblad_shell.proofs.MergeSteps.{pushed_is, started, starts_fault, starts_more}
use Rattle.kohiblad_shell.proofs.merge.first_heads.Goals as goal

pub returns-in_err-head-clause-fault : goal.returns-in_err-head-clause-fault
returns-in_err-head-clause-fault g c =
    let is : c.from_residual.result ≡ Err c.in_err-head.field-0.0 = search rules in
    let low : c.loop-input.input < length c.loop-input.readers =
    omega (arith, c.loop-input-test.true, c.loop-input.auto.readers) in
    let x = get_or c.loop-input.readers c.loop-input.input c.index-readers-input.result in
    rw is
    (starts_fault g.R.Read.remaining (g.L.LineWorker.rule c.args.worker.now) c.args.form
    c.args.readers.now c.loop-input.readers c.loop-input.heads.items c.loop-input.input
    c.loop-input.invariant low c.loop-input.auto.readers x
    (get_or_default c.loop-input.readers c.loop-input.input c.index-readers-input.result x low)
    c.in_err-head.field-0.0 c.in_err-head.ensures.fault)

pub loop-input-preserved : goal.loop-input-preserved
loop-input-preserved g c =
    let low : c.loop-input.input < length c.loop-input.readers =
    omega (arith, c.loop-input-test.true, c.loop-input.auto.readers) in
    let x = get_or c.loop-input.readers c.loop-input.input c.index-readers-input.result in
    let pushed : c.push.new.self.items
    ≡ c.loop-input.heads.items ++ c.in_ok-head.head ∷ [] =
    pushed_is c.push.result c.push.new.self.items
    (c.loop-input.heads.items ++ c.in_ok-head.head ∷ []) c.loop-input.heads.items
    (sym c.is_err.ensures.value ∙ c.if-is_err.false) c.push.ensures.items in
    rw pushed
    (starts_more g.R.Read.remaining (g.L.LineWorker.rule c.args.worker.now) c.args.form
    c.args.readers.now c.loop-input.readers c.loop-input.heads.items c.loop-input.input
    c.loop-input.invariant low c.loop-input.auto.readers x
    (get_or_default c.loop-input.readers c.loop-input.input c.index-readers-input.result x low)
    c.next_head.new.reader c.in_ok-head.head c.in_ok-head.ensures.row
    c.in_ok-head.ensures.place)

pub returns-clause-ok : goal.returns-clause-ok
returns-clause-ok g c =
    started g.R.Read.remaining (g.L.LineWorker.rule c.args.worker.now) c.args.form
    c.args.readers.now c.loop-input.readers c.loop-input.heads.items c.loop-input.input
    c.loop-input.invariant (omega (arith, c.loop-input-test.false, c.loop-input.auto.input-end))
