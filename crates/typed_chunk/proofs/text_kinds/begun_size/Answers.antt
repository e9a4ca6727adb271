use Rattle.std.proofs.Common.{◌∙◌, ℕ, ap, arith, pos}
use Rattle.typed_chunk.specs.Packed.{bits}
use Rattle.typed_chunk.proofs.NaturalLaws.{least_below, least_pos}
use Rattle.typed_chunk.proofs.SizeLaws.{naturals_bytes}
use Rattle.typed_chunk.proofs.text_kinds.begun_size.Goals as goal

pub lower-requires : goal.lower-requires
lower-requires c =
    least_below c.least_number-least.result c.args.lengths.now
    (ap (λ (n : ℕ). pos n) c.least_number-least.ensures ∙ least_pos c.args.lengths.now)

pub returns-clause-is : goal.returns-clause-is
returns-clause-is c =
    let frame_long = naturals_bytes c.args.lengths.now c.least_number-least.result
    c.lower.new.numbers (bits c.width_of.result) c.packed_len.result c.least_number-least.ensures
    c.lower.ensures c.width_of.ensures.is c.packed_len.ensures in
    omega (arith, frame_long, c.total-total.ensures.is)
