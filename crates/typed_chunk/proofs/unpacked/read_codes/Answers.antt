use Rattle.std.proofs.Common.{◌≡◌, ◌*◌, ◌<◌, ◌^◌, ap, arith, length, refl, subst, sym, ◌∙◌, ℕ}
use Rattle.std.proofs.lemmas.Bool.{false≢true}
use Rattle.std.proofs.Math.Nat.{mul_comm}
use Rattle.typed_chunk.specs.Digits.{digits, number}
use Rattle.typed_chunk.specs.Packed.{bits, packed_len}
use Rattle.typed_chunk.proofs.UnpackedLaws.{packed-unpacked, written}
use Rattle.typed_chunk.proofs.unpacked.read_codes.Goals as goal

pub returns-then-bytes-packed_len-clause-back : goal.returns-then-bytes-packed_len-clause-back
returns-then-bytes-packed_len-clause-back c = λ items many are.
    let w = written (bits c.args.width) items c.args.bytes.now are in
    absurd (c.if-bytes-packed_len.true
    (w.long ∙ ap (packed_len (bits c.args.width)) many ∙ sym c.packed_len.ensures))

pub returns-then-not-ends_in_zeros-clause-back : goal.returns-then-not-ends_in_zeros-clause-back
returns-then-not-ends_in_zeros-clause-back c = λ items many are.
    let width = bits c.args.width in
    let w = written width items c.args.bytes.now are in
    let count : width * length items ≡ length c.args.codes.now * c.from.result =
    ap (λ (k : ℕ). width * k) many
    ∙ mul_comm width (length c.args.codes.now)
    ∙ ap (λ (k : ℕ). length c.args.codes.now * k) (sym c.bits.ensures ∙ sym c.from.ensures) in
    let low : number 256 c.args.bytes.now < 2 ^ (length c.args.codes.now * c.from.result) =
    subst (λ (k : ℕ). number 256 c.args.bytes.now < 2 ^ k) count w.low in
    let test = c.ends_in_zeros.ensures.1 low in
    absurd (false≢true (sym c.if-not-ends_in_zeros.true ∙ test))

pub returns-clause-ok : goal.returns-clause-ok
returns-clause-ok c =
    let width = bits c.args.width in
    let count : length c.args.codes.now * c.from.result ≡ width * length c.args.codes.now =
    ap (λ (k : ℕ). length c.args.codes.now * k) (c.from.ensures ∙ c.bits.ensures)
    ∙ mul_comm (length c.args.codes.now) width in
    packed-unpacked width (length c.args.codes.now) c.fill_codes.new.codes c.args.bytes.now
    (λ i. omega (arith, c.type_inv.bytes i))
    (omega (arith, c.if-bytes-packed_len.false, c.packed_len.ensures))
    (subst (λ (k : ℕ). number 256 c.args.bytes.now < 2 ^ k) count
    (c.ends_in_zeros.ensures.0 c.if-not-ends_in_zeros.false))
    c.fill_codes.ensures

pub returns-clause-back : goal.returns-clause-back
returns-clause-back c = λ items many are.
    let bytes = c.args.bytes.now in
    let w = written (bits c.args.width) items bytes are in (
      refl,
      c.fill_codes.ensures
          ∙ ap (λ (k : ℕ). digits (2 ^ bits c.args.width) k (number 256 bytes)) (sym many)
          ∙ w.back,
    )
