-- The text is a time and an offset.
use Rattle.std.proofs.Common.{◌≡◌, FitsSigned, arith, inr, length, rules, subst, w32}
use Rattle.std.specs.Prelude.{ℤ}
use Rattle.std.proofs.Math.Facts.{to_z-of_z}
use Rattle.std.proofs.lemmas.Int.{ints}
use Rattle.kohiblad_shell.specs.IsoForms.{IsPlainOffset}
use Rattle.kohiblad_shell.proofs.IsoLaws.{zoned_joined}
use Rattle.kohiblad_shell.proofs.iso_text.zoned_text.Goals as goal

pub returns-in_default-2 : goal.returns-in_default-2
returns-in_default-2 c =
    let none = rw c.in_default-2.is at c.in_ok-text.ensures in
    inr (λ t e. none t (omega (arith, ints)))

pub returns : goal.returns
returns c =
    let text = rw c.in-Some-2.is at c.in_ok-text.ensures in
    let six : length c.in-Some.zone ≡ 6 = search rules in
    let items = c.in_ok-extend_from_slice.ensures.items in
    let fits : FitsSigned w32 c.args.value.offset = search rules in
    let P : ℤ → Type 0 = λ offset. IsPlainOffset offset c.in-Some.zone in
    let zone = subst P (to_z-of_z fits) c.in-Some.ensures.some in (
      rw items (zoned_joined c.in-Some-2.text.items c.in-Some.zone _ c.args.value six
          c.in-Some.ensures.digit text.0 zone.0 (omega (arith, ints))),
      (c.in-Some-2.text.items, (c.in-Some.zone, (items, (text.1, zone)))),
    )
