use Rattle.std.proofs.Common.{◌≡◌, arith, of_z, subst, to_z}
use Rattle.std.specs.Int.{w64}
use Rattle.std.proofs.lemmas.Int.{to_z-of_z}
use Rattle.typed_chunk.specs.NumberChunk.{with_unset}
use Rattle.typed_chunk.proofs.ValueLaws.{unset_by}
use Rattle.typed_chunk.proofs.filled.write_unset.Goals as goal

pub returns : goal.returns
returns c =
    let least = c.args.least in
    let values = c.args.values.now in
    let has = c.args.has.now in
    let new = c.loop-index.values in
    subst (λ z. new ≡ with_unset z values has) (to_z-of_z w64 least c.ranges.least)
    (unset_by (to_z w64 (of_z w64 least)) values new has c.requires c.loop-index.auto.values
    (λ k low. c.loop-index.invariant.written k
    (omega (arith, low, c.loop-index-test.false, c.loop-index.auto.values))))
