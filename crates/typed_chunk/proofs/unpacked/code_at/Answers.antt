use Rattle.std.proofs.Common.{◌∙◌}
use Rattle.typed_chunk.specs.Packed.{bits}
use Rattle.typed_chunk.proofs.UnpackedLaws.{code_packed}
use Rattle.typed_chunk.proofs.unpacked.code_at.Goals as goal

pub returns-clause-packed : goal.returns-clause-packed
returns-clause-packed c = λ codes are low.
    c.code_of_width.ensures
    ∙ code_packed (bits c.args.width) c.args.index codes c.args.bytes.now are low
