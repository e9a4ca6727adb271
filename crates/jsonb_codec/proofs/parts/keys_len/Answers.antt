use Rattle.std.proofs.Common.{arith}
use Rattle.jsonb_codec.proofs.Steps.{reading, length-Read}
use Rattle.jsonb_codec.proofs.PairLaws.{keys_after, keys_ended}
use Rattle.jsonb_codec.proofs.parts.keys_len.Goals as goal

pub loop-entry-preserved : goal.loop-entry-preserved
loop-entry-preserved c =
    let l = c.loop-entry in
    let read = reading c.in-Some.ensures in (
      omega (arith, l.invariant.0, length-Read read, read.number),
      λ ps p h.
          let (us, (q, (are, long))) = l.invariant.1 ps p h in
          let (vs, (r, (left, longer))) = keys_after read us q are in
          (vs, (r, (left, omega (arith, long, longer)))),
    )

pub loop-entry-smaller : goal.loop-entry-smaller
loop-entry-smaller c = omega (arith, length-Read (reading c.in-Some.ensures))

pub returns : goal.returns
returns c ps p h =
    let (us, (q, (are, long))) = c.loop-entry.invariant.1 ps p h in
    omega (arith, long, keys_ended us _ _ c.in_default.ensures.none are)
