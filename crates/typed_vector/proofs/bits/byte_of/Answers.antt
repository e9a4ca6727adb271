use Rattle.std.proofs.Common.{refl, ◌∙◌, ◌*◌, false, get_or, ℕ}
use Rattle.typed_vector.specs.Bits.{bit}
use Rattle.typed_vector.proofs.BitLaws.{AreBits, eight, picked}
use Rattle.typed_vector.proofs.bits.byte_of.Goals as goal

pub returns : goal.returns
returns c = λ place low.
    let bits : AreBits c.bit_of.result c.bit_of-2.result c.bit_of-3.result c.bit_of-4.result
    c.bit_of-5.result c.bit_of-6.result c.bit_of-7.result c.bit_of-8.result = record {
      a1 = c.bit_of.ensures.small;
      b1 = c.bit_of-2.ensures.small;
      c1 = c.bit_of-3.ensures.small;
      d1 = c.bit_of-4.ensures.small;
      e1 = c.bit_of-5.ensures.small;
      f1 = c.bit_of-6.ensures.small;
      g1 = c.bit_of-7.ensures.small;
      h1 = c.bit_of-8.ensures.small;
    } in
    eight c.bit_of.result c.bit_of-2.result c.bit_of-3.result c.bit_of-4.result
    c.bit_of-5.result c.bit_of-6.result c.bit_of-7.result c.bit_of-8.result _ bits refl place low
    ∙ picked (λ (k : ℕ). bit (get_or c.args.flags.now k false)) (8 * c.args.index)
    c.bit_of.result c.bit_of-2.result c.bit_of-3.result c.bit_of-4.result
    c.bit_of-5.result c.bit_of-6.result c.bit_of-7.result c.bit_of-8.result
    c.bit_of.ensures.value c.bit_of-2.ensures.value c.bit_of-3.ensures.value
    c.bit_of-4.ensures.value c.bit_of-5.ensures.value c.bit_of-6.ensures.value
    c.bit_of-7.ensures.value c.bit_of-8.ensures.value place low
