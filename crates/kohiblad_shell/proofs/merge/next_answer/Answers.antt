use Rattle.std.proofs.Common.{◌≡◌, ◌-◌, ◌+◌, ◌∙◌, true, subst, sym, arith}
use Rattle.kohiblad_shell.specs.Outcomes.{gives_nothing}
use Rattle.kohiblad_shell.proofs.MergeLaws.{HasPassed, finds, passes_more, passes_none}
use Rattle.kohiblad_shell.proofs.merge.next_answer.Goals as goal

pub passing-init : goal.passing-init
passing-init g c =
    let none : c.args.before - c.args.before ≡ 0 = omega arith in
    rw none
    (passes_none (g.L.LineWorker.rule c.args.worker.now) c.args.form
    (g.R.Read.remaining c.args.reader.now))

pub returns-then-not-gives_nothing-clause-answer :
    goal.returns-then-not-gives_nothing-clause-answer
returns-then-not-gives_nothing-clause-answer g c =
    finds (g.L.LineWorker.rule c.args.worker.now) c.args.form
    (g.R.Read.remaining c.args.reader.now) (g.R.Read.remaining c.passing.reader)
    (g.R.Read.remaining c.answer_next.new.reader) c.args.before
    (c.passing.passed - c.args.before) (c.passing.passed + 1) c.in_ok-answer.answer
    c.passing.invariant c.in_ok-answer.ensures.answer (omega arith)

pub passing-preserved : goal.passing-preserved
passing-preserved g c =
    let count = c.passing.passed - c.args.before in
    let same : count + 1 ≡ (c.passing.passed + 1) - c.args.before = omega arith in
    let nothing : gives_nothing c.in_ok-answer.answer ≡ true =
    sym c.gives_nothing.ensures ∙ c.if-not-gives_nothing.false in
    subst (λ n. HasPassed (g.L.LineWorker.rule c.args.worker.now) c.args.form
    (g.R.Read.remaining c.args.reader.now) (g.R.Read.remaining c.answer_next.new.reader) n) same
    (passes_more (g.L.LineWorker.rule c.args.worker.now) c.args.form
    (g.R.Read.remaining c.args.reader.now) (g.R.Read.remaining c.passing.reader)
    (g.R.Read.remaining c.answer_next.new.reader) count c.in_ok-answer.answer
    c.passing.invariant c.in_ok-answer.ensures.answer nothing)
