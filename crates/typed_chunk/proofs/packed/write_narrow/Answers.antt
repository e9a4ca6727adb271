use Rattle.std.proofs.Common.{◌*◌, ◌/◌, ◌≤◌, length, arith, rules}
use Rattle.typed_chunk.proofs.PackedLaws.{Below-codes, byte_within, narrow_bytes}
use Rattle.typed_chunk.proofs.packed.write_narrow.Goals as goal

pub slice_bounds-byte_of-count : goal.slice_bounds-byte_of-count
slice_bounds-byte_of-count c =
    let within = byte_within c.args.width (8 / c.args.width) c.loop-index.index
    (length c.args.codes.now) c.requires.some c.requires.whole
    (omega (arith, c.loop-index-test.true, c.requires.room)) in
    omega (arith, within, c.min-end.ensures)

pub slice_bounds-byte_of-start : goal.slice_bounds-byte_of-start
slice_bounds-byte_of-start c =
    let within = byte_within c.args.width (8 / c.args.width) c.loop-index.index
    (length c.args.codes.now) c.requires.some c.requires.whole
    (omega (arith, c.loop-index-test.true, c.requires.room)) in
    let start : 8 / c.args.width * c.loop-index.index ≤ c.min-end.result =
    omega (arith, within, c.min-end.ensures) in
    search (rules, start)

pub returns : goal.returns
returns c =
    narrow_bytes c.args.width (8 / c.args.width) c.args.codes.now c.loop-index.bytes
    c.requires.whole (Below-codes c.args.width c.args.codes.now c.requires.fit)
    (omega (arith, c.loop-index.auto.bytes, c.requires.room))
    (λ k low. c.loop-index.invariant k
    (omega (arith, low, c.loop-index-test.false, c.loop-index.auto.bytes)))
