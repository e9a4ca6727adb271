use Rattle.std.proofs.Common.{◌≡◌, ◌+◌, ◌-◌, ◌*◌, ◌^◌, ◌≤◌, get_or, length, take, arith, sym, subst}
use Rattle.std.proofs.Common.{◌∙◌}
use Rattle.std.proofs.Math.Nat.{mul-le-mul_left}
use Rattle.typed_chunk.specs.Digits.{digits, number}
use Rattle.typed_chunk.proofs.PackedLaws.{Below-codes, bytes-bits, wide_bytes, wide_step}
use Rattle.typed_chunk.proofs.PackedLaws.{wide_written}
use Rattle.typed_chunk.proofs.packed.write_wide.Goals as goal

pub write_uint-requires-clause-fits : goal.write_uint-requires-clause-fits
write_uint-requires-clause-fits c =
    let low = Below-codes (8 * c.args.size) c.args.codes.now c.requires.fit c.loop-index.index in
    omega (arith, low, bytes-bits c.args.size)

pub loop-index-preserved : goal.loop-index-preserved
loop-index-preserved c =
    let size = c.args.size in
    let index = c.loop-index.index in
    let codes = c.args.codes.now in
    let inside : size * (index + 1) ≤ size * length codes =
    mul-le-mul_left size (omega (arith, c.loop-index-test.true)) in
    wide_written size index (get_or codes index 0) (size * index + size - size * index)
    c.loop-index.bytes c.write_uint.new.buf
    (digits 256 (size * index) (number (2 ^ (8 * size)) (take index codes)))
    (omega arith) (omega (arith, inside, c.loop-index.auto.bytes, c.requires.room))
    c.write_uint.ensures c.loop-index.invariant
    ∙ sym (wide_step size index codes (Below-codes (8 * size) codes c.requires.fit)
    c.loop-index-test.true)

pub returns : goal.returns
returns c =
    let size = c.args.size in
    let codes = c.args.codes.now in
    let bytes = c.loop-index.bytes in
    let all : c.loop-index.index ≡ length codes =
    omega (arith, c.loop-index-test.false, c.loop-index.auto.index-end) in
    wide_bytes size codes bytes (omega (arith, c.loop-index.auto.bytes, c.requires.room))
    (subst (λ k. take (size * k) bytes
    ≡ digits 256 (size * k) (number (2 ^ (8 * size)) (take k codes))) all c.loop-index.invariant)
