use Rattle.std.proofs.Common.{◌≡◌, arith, map, of_z, pos, subst, to_z}
use Rattle.std.specs.Int.{w64}
use Rattle.std.proofs.lemmas.Int.{to_z-of_z}
use Rattle.typed_chunk.specs.Frame.{value_at_height}
use Rattle.typed_chunk.proofs.FrameLaws.{mapped}
use Rattle.typed_chunk.proofs.frame.write_values.Goals as goal

pub returns : goal.returns
returns c =
    let least = c.args.least in
    let codes = c.args.codes.now in
    let values = c.loop-index.values in
    subst (λ z. values ≡ map (value_at_height z) codes) (to_z-of_z w64 least c.ranges.least)
    (mapped (value_at_height (to_z w64 (of_z w64 least))) codes values 0 (pos 0)
    (omega (arith, c.loop-index.auto.values, c.requires.long))
    (λ k low. c.loop-index.invariant k
    (omega (arith, low, c.loop-index-test.false, c.loop-index.auto.values))))
