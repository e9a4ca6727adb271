use Rattle.std.proofs.Common.{◌≡◌, ◌<◌, [], ◌∷◌, ◌++◌, get_or, length, sym, ◌∙◌, arith}
use Rattle.std.proofs.lemmas.List.{get_or_default}
use Rattle.kohiblad_shell.proofs.MergeSteps.{pushed_is}
use Rattle.kohiblad_shell.proofs.SortedRunSteps.{started, starts, starts_more}
use Rattle.kohiblad_shell.proofs.sorted_run.first_heads.Goals as goal

pub loop-input-init : goal.loop-input-init
loop-input-init g c = rw c.new-heads.ensures.items (starts g.R.Read.remaining c.args.runs.now)

pub loop-input-preserved : goal.loop-input-preserved
loop-input-preserved g c =
    let low : c.loop-input.input < length c.loop-input.runs =
    omega (arith, c.loop-input-test.true, c.loop-input.auto.runs) in
    let x = get_or c.loop-input.runs c.loop-input.input c.index-runs-input.result in
    let pushed : c.push.new.self.items
    ≡ c.loop-input.heads.items ++ c.read_head.new.head ∷ [] =
    pushed_is c.push.result c.push.new.self.items
    (c.loop-input.heads.items ++ c.read_head.new.head ∷ []) c.loop-input.heads.items
    (sym c.is_err.ensures.value ∙ c.if-is_err.false) c.push.ensures.items in
    rw pushed
    (starts_more g.R.Read.remaining
    c.args.runs.now c.loop-input.runs c.loop-input.heads.items c.loop-input.input
    c.loop-input.invariant low c.loop-input.auto.runs x
    (get_or_default c.loop-input.runs c.loop-input.input c.index-runs-input.result x low)
    c.read_head.new.run c.read_head.new.head c.in_ok-read_head.ensures)

pub returns : goal.returns
returns g c =
    started g.R.Read.remaining
    c.args.runs.now c.loop-input.runs c.loop-input.heads.items c.loop-input.input
    c.loop-input.invariant (omega (arith, c.loop-input-test.false, c.loop-input.auto.input-end))
