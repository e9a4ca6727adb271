use Rattle.std.proofs.Common.{◌*◌, ◌+◌, ◌-◌, take, drop, arith, ap, ◌∙◌, ℕ}
use Rattle.typed_chunk.proofs.UnpackedLaws.{wide_code}
use Rattle.typed_chunk.proofs.unpacked.wide_code.Goals as goal

pub returns : goal.returns
returns c =
    let size = c.args.size in
    let start = size * c.args.index in
    let bytes = c.args.bytes.now in
    c.read_uint.ensures
    ∙ wide_code size c.args.index bytes (take (start + size - start) (drop start bytes))
    (λ i. omega (arith, c.type_inv.bytes i)) c.requires.within
    (ap (λ (k : ℕ). take k (drop start bytes)) (omega arith))
