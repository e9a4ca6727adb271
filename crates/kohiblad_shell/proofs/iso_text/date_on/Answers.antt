-- No two dates are one day, and each date is a day of the calendar.
use Rattle.std.proofs.Common.{◌∙◌, ℤ, arith, subst, sym}
use Rattle.std.specs.Prelude.{◌<ℤ◌, pos}
use Rattle.std.proofs.Math.Facts.{to_z-of_z}
use Rattle.std.proofs.lemmas.Int.{ints}
use Rattle.jiff_core.specs.Calendar.{IsEpochDay}
use Rattle.jiff_core.proofs.DateLemmas.{epoch_day_range}
use Rattle.kohiblad_shell.proofs.IsoLaws.{year_of_day}
use Rattle.kohiblad_shell.proofs.iso_text.date_on.Goals as goal

pub returns-in_default-clause-none : goal.returns-in_default-clause-none
returns-in_default-clause-none c _ d e =
    let day = to_z-of_z c.ranges.day in
    let below : c.in-Ok.date.year <ℤ pos 0 = omega (arith, ints) in
    year_of_day d c.in-Ok.date (e ∙ sym day ∙ sym c.in-Ok.ensures.value) below

pub returns-in_default-2-clause-none : goal.returns-in_default-2-clause-none
returns-in_default-2-clause-none c _ d e =
    let P : ℤ → Type 0 = λ day. IsEpochDay day in
    let valid = subst P (e ∙ sym (to_z-of_z c.ranges.day)) (epoch_day_range d) in
    let none = c.in_default.ensures.succeeds.1 valid in
    absurd (cc)
