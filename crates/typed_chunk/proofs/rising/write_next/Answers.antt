use Rattle.std.proofs.Common.{◌≡◌, ◌+◌, ◌+ℤ◌, ℤ, ap, arith, get_or, of_z, pos, set, to_z}
use Rattle.std.specs.Int.{w64}
use Rattle.std.proofs.lemmas.Int.{ints, to_z-of_z}
use Rattle.typed_chunk.proofs.rising.write_next.Goals as goal

pub returns : goal.returns
returns c =
    let values = c.args.values.now in
    let index = c.args.index in
    let value = get_or values index (pos 0) +ℤ pos c.args.step in
    let is : to_z w64 (of_z w64 c.raised.result) ≡ value =
    first_of (omega (arith, ints), grind (arith, ints), grind (arith, to_z-of_z)) in
    ap (λ (z : ℤ). set values (index + 1) z) is
