use Rattle.std.proofs.Common.{◌<◌, length, ap, sym, ◌∙◌, arith}
use Rattle.kohiblad_shell.specs.Merges.{earlier}
use Rattle.kohiblad_shell.proofs.MergeLaws.{first_of-more}
use Rattle.kohiblad_shell.proofs.merge.first_head.Goals as goal

pub loop-head-preserved : goal.loop-head-preserved
loop-head-preserved c =
    let low : c.loop-head.head-index < length c.args.heads.now = omega arith in
    c.earlier-first.ensures ∙ ap (λ f. earlier f c.head-item.result) c.loop-head.invariant
    ∙ sym (first_of-more c.args.heads.now c.loop-head.head-index c.head-item.result low
    c.head-item.is)
