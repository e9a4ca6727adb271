use Rattle.std.proofs.Common.{ap, length}
use Rattle.typed_chunk.specs.Packed.{bits}
use Rattle.typed_chunk.proofs.UnpackedLaws.{none_filled}
use Rattle.typed_chunk.proofs.unpacked.fill_codes.Goals as goal

pub returns-in-Zero : goal.returns-in-Zero
returns-in-Zero c =
    none_filled (bits c.args.width) c.fill.new.self c.args.bytes.now (length c.args.codes.now)
    (ap bits c.in-Zero.is) (c.fill.ensures.after (λ y is. is))
