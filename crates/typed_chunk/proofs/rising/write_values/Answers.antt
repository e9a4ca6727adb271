use Rattle.std.proofs.Common.{◌≡◌, ◌+ℤ◌, ◌∷◌, ℤ, FitsSigned, arith, get_or}
use Rattle.std.proofs.Common.{length-set, of_z, pos, subst, sum, sym, to_z}
use Rattle.std.specs.Int.{w64}
use Rattle.std.proofs.lemmas.Int.{to_z-of_z}
use Rattle.std.proofs.lemmas.List.{ext_get_or}
use Rattle.typed_chunk.specs.Rising.{values_from}
use Rattle.typed_chunk.proofs.RisingLaws.{length-values_from, next_fits, set_next}
use Rattle.typed_chunk.proofs.rising.write_values.Goals as goal

pub write_next-requires-clause-fits : goal.write_next-requires-clause-fits
write_next-requires-clause-fits c =
    let first = c.args.first in
    let steps = c.args.steps.now in
    let index = c.loop-index.index in
    let same = to_z-of_z w64 first c.ranges.first in
    next_fits (to_z w64 (of_z w64 first)) (get_or c.loop-index.values index (pos 0)) steps index
    c.loop-index-test.true (subst (FitsSigned w64) (sym same) c.ranges.first)
    (subst (λ z. FitsSigned w64 (z +ℤ pos (sum steps))) (sym same) c.requires.fits)
    (c.loop-index.invariant index (omega arith))

pub loop-index-preserved : goal.loop-index-preserved
loop-index-preserved c =
    set_next (to_z w64 (of_z w64 c.args.first)) c.args.steps.now c.loop-index.values
    c.write_next.new.values c.loop-index.index c.loop-index-test.true
    (omega (
      arith,
      length-set {A = ℤ},
      c.loop-index.auto.values,
      c.requires.room,
      c.loop-index-test.true,
    )) c.write_next.ensures c.loop-index.invariant

pub returns : goal.returns
returns c =
    let first = c.args.first in
    let steps = c.args.steps.now in
    let values = c.loop-index.values in
    subst (λ z. values ≡ z ∷ values_from z steps) (to_z-of_z w64 first c.ranges.first)
    (ext_get_or (pos 0) values
    (to_z w64 (of_z w64 first) ∷ values_from (to_z w64 (of_z w64 first)) steps)
    (omega (
      arith,
      length-set {A = ℤ},
      c.loop-index.auto.values,
      c.requires.room,
      length-values_from (to_z w64 (of_z w64 first)) steps,
    ))
    (λ k low. c.loop-index.invariant k
    (omega (
      arith,
      length-set {A = ℤ},
      low,
      c.loop-index.auto.values,
      c.requires.room,
      c.loop-index-test.false,
    ))))
