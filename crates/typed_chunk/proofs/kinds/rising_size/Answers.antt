use Rattle.std.proofs.Common.{arith}
use Rattle.typed_chunk.specs.Packed.{bits}
use Rattle.typed_chunk.proofs.NaturalLaws.{least_below, least_pos}
use Rattle.typed_chunk.proofs.SizeLaws.{rising_bytes}
use Rattle.std.proofs.Common.{ℕ, ap, pos, ◌∙◌}
use Rattle.typed_chunk.proofs.kinds.rising_size.Goals as goal

pub lower-requires : goal.lower-requires
lower-requires c =
    least_below c.least_number-least.result c.write_steps.new.steps
    (ap (λ (n : ℕ). pos n) c.least_number-least.ensures ∙ least_pos c.write_steps.new.steps)

pub returns : goal.returns
returns c =
    rising_bytes c.args.values.now c.least_number-least.result c.write_steps.new.steps
    c.lower.new.numbers (bits c.width_of.result) c.packed_len.result
    (omega (arith, c.requires.two)) c.write_steps.ensures c.least_number-least.ensures
    c.lower.ensures c.width_of.ensures.is c.packed_len.ensures
