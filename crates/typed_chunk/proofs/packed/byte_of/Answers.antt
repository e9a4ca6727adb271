use Rattle.std.proofs.Common.{◌+◌, arith}
use Rattle.typed_chunk.proofs.PackedLaws.{Below-codes, byte_step, few_codes}
use Rattle.typed_chunk.proofs.packed.byte_of.Goals as goal

pub overflow_add-byte : goal.overflow_add-byte
overflow_add-byte c =
    let width = c.args.width in
    let codes = c.args.codes.now in
    let below = Below-codes width codes c.requires.fit in
    let step = byte_step width c.loop-index.index c.loop-index.byte codes c.requires.few below
    c.loop-index-test.true c.loop-index.invariant in
    let small = few_codes width (c.loop-index.index + 1) codes c.requires.few below in
    omega (arith, step, small)

pub loop-index-preserved : goal.loop-index-preserved
loop-index-preserved c =
    let width = c.args.width in
    let codes = c.args.codes.now in
    byte_step width c.loop-index.index c.loop-index.byte codes c.requires.few
    (Below-codes width codes c.requires.fit) c.loop-index-test.true c.loop-index.invariant

pub overflow_cast-result : goal.overflow_cast-result
overflow_cast-result c =
    let width = c.args.width in
    let codes = c.args.codes.now in
    let small = few_codes width c.loop-index.index codes c.requires.few
    (Below-codes width codes c.requires.fit) in
    omega (arith, small, c.loop-index.invariant)
