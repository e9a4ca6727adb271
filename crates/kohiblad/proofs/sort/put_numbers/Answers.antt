use Rattle.std.proofs.Common.{ℕ}
use Rattle.jsonb.proofs.PutLaws.{one_more_put}
use Rattle.jsonb.specs.declared.sort_key.SortKey.{SortKey}
use Rattle.kohiblad.proofs.sort.put_numbers.Goals as goal

pub loop-number-preserved : goal.loop-number-preserved
loop-number-preserved c =
    one_more_put (λ (key : SortKey × ℕ). key.1) c.args.keys.now c.args.order.now
    c.loop-number.order c.loop-number.number c.index-keys-number.result c.loop-number-test.true
    c.requires c.loop-number.invariant
