use Rattle.std.proofs.Common.{◌≡◌, ◌^◌, length, arith, subst}
use Rattle.typed_chunk.specs.Digits.{digits, number}
use Rattle.typed_chunk.proofs.UnpackedLaws.{filled}
use Rattle.typed_chunk.proofs.unpacked.fill_narrow.Goals as goal

pub returns : goal.returns
returns c =
    let codes = c.loop-index.codes in
    let bytes = c.args.bytes.now in
    let long : length codes ≡ length c.args.codes.now = c.loop-index.auto.codes in
    subst (λ k. codes ≡ digits (2 ^ c.args.width) k (number 256 bytes)) long
    (filled c.args.width codes bytes
    (λ k low. c.loop-index.invariant k (omega (arith, low, long, c.loop-index-test.false))))
