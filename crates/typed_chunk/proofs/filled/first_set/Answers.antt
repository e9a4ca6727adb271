use Rattle.std.proofs.Common.{◌≡◌, ◌∙◌, arith, false, get_or, rules, sym}
use Rattle.typed_chunk.proofs.ValueLaws.{none_here}
use Rattle.typed_chunk.proofs.filled.first_set.Goals as goal

pub loop-index-preserved : goal.loop-index-preserved
loop-index-preserved c =
    let values = c.args.values.now in
    let has = c.args.has.now in
    let index = c.loop-index.index in
    let none : get_or has index false ≡ false = first_of (search rules, grind arith) in
    sym (none_here values has index (omega (arith, c.loop-index-test.true, c.requires))
    c.loop-index-test.true none)
    ∙ c.loop-index.invariant
