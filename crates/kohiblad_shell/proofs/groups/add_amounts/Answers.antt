use Rattle.std.proofs.Common.{◌∙◌, ap, arith, set}
use Rattle.kohiblad_shell.proofs.GroupLaws.{totals_more, totals_past}
use Rattle.kohiblad_shell.proofs.groups.add_amounts.Goals as goal
use Rattle.kohiblad_shell.proofs.groups.add_amounts.Goals.{else-index-totals, then-index-totals}

pub loop-index-preserved : goal.loop-index-preserved
loop-index-preserved c =
    elim c.if-index-totals.branch [
      | then-index-totals w ↦
          w.totals-is ∙ ap (λ t. set c.loop-index.totals c.loop-index.index t) w.with.ensures
          ∙ totals_more c.args.totals.now c.loop-index.totals c.args.amounts.now
          c.loop-index.index _ _ c.loop-index.invariant (omega arith) (omega arith)
      | else-index-totals w ↦
          w.totals-is
          ∙ totals_past c.args.totals.now c.loop-index.totals c.args.amounts.now
          c.loop-index.index c.loop-index.invariant (omega arith)
    ]
