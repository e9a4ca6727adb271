use Rattle.jsonb_path.proofs.PairLaws.{row_slice}
use Rattle.jsonb_path.proofs.pairs.passes_with.Goals as goal

pub loop-left-preserved : goal.loop-left-preserved
loop-left-preserved c =
    row_slice _ _ _ c.loop-left.left.now c.other-item.result c.in-len1-up.len_at_least
    c.other-item.is _ _ _ c.loop-left.truth _ _ c.of-scalar.ensures c.of.ensures c.ask.ensures
    c.either_in-truth.ensures c.loop-left.invariant
