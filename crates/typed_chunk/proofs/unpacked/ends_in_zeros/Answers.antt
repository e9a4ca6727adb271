use Rattle.std.proofs.Common.{◌<◌, ◌/◌, ◌^◌, ◌%◌, get_or, arith, eq-eqb, sym, ◌∙◌}
use Rattle.std.proofs.lemmas.Bool.{eqb-true}
use Rattle.std.proofs.lemmas.Nat.{pow_pos}
use Rattle.std.proofs.Math.Nat.{div-eq_of_lt}
use Rattle.typed_chunk.specs.Digits.{number}
use Rattle.typed_chunk.proofs.DigitLaws.{Below}
use Rattle.typed_chunk.proofs.UnpackedLaws.{below_from_div, last_byte, whole_bytes}
use Rattle.typed_chunk.proofs.unpacked.ends_in_zeros.Goals as goal

pub returns-then-count-eq0 : goal.returns-then-count-eq0
returns-then-count-eq0 c =
    let none = c.if-count-eq0.true in (
      λ _. whole_bytes c.args.count c.args.bytes.now (λ i. omega (arith, c.type_inv.bytes i)) none
          c.requires,
      λ _. eq-eqb _ _ none,
    )

pub returns-else-count-eq0 : goal.returns-else-count-eq0
returns-else-count-eq0 c =
    let count = c.args.count in
    let bytes = c.args.bytes.now in
    let below : Below 256 bytes = λ i. omega (arith, c.type_inv.bytes i) in
    let some : 0 < count % 8 = omega (arith, c.if-count-eq0.false) in
    let last = last_byte count bytes below some c.requires in (
      λ is. below_from_div (number 256 bytes) (2 ^ count) (pow_pos count)
          (last ∙ eqb-true (get_or bytes (count / 8) 0 / 2 ^ (count % 8)) 0 is),
      λ low. eq-eqb (get_or bytes (count / 8) 0 / 2 ^ (count % 8)) 0
          (sym last ∙ div-eq_of_lt low),
    )
