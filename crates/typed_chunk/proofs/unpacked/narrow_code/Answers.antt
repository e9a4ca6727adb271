use Rattle.std.proofs.Common.{◌/◌, ◌%◌, length, arith, ap₂, ◌∙◌, ℕ}
use Rattle.std.proofs.lemmas.Nat.{one_shl}
use Rattle.typed_chunk.proofs.UnpackedLaws.{byte_inside, narrow_code, width_low}
use Rattle.typed_chunk.proofs.unpacked.narrow_code.Goals as goal

pub bounds-bytes-index : goal.bounds-bytes-index
bounds-bytes-index c =
    byte_inside c.args.width (8 / c.args.width) c.args.index (length c.args.bytes.now)
    c.requires.whole c.requires.within

pub returns : goal.returns
returns c =
    let width = c.args.width in
    let low = width_low width (8 / width) c.requires.whole in
    ap₂ (λ (n m : ℕ). n % m) c.from.ensures (one_shl width 64 (omega (arith, low)))
    ∙ narrow_code width (8 / width) c.args.index c.args.bytes.now c.requires.some
    c.requires.whole (λ i. omega (arith, c.type_inv.bytes i)) c.requires.within
