use Rattle.std.proofs.Common.{◌<◌, ◌≡◌, ◌^◌, arith, length}
use Rattle.std.proofs.lemmas.List.Elements.{All-from_get_or}
use Rattle.typed_chunk.proofs.BooleanLaws.{numbers_filled}
use Rattle.typed_chunk.proofs.boolean_chunk.write_numbers.Goals as goal

pub returns-clause-is : goal.returns-clause-is
returns-clause-is c =
    let many : length c.loop-index.codes ≡ length c.args.has.now =
    omega (arith, c.loop-index.auto.codes, c.requires.room) in
    numbers_filled c.args.values.now c.args.has.now c.all_true-least.result c.loop-index.codes
    c.requires.rows many c.requires.some c.all_true-least.ensures
    (λ k low. c.loop-index.invariant.written k
    (omega (arith, low, many, c.loop-index-test.false)))

pub returns-clause-fit : goal.returns-clause-fit
returns-clause-fit c =
    All-from_get_or (λ number. number < 256 ^ 1) c.loop-index.codes 0
    (λ k low.
    let below = c.loop-index.invariant.low k (omega (arith, low, c.loop-index-test.false)) in
    omega (arith, below))
