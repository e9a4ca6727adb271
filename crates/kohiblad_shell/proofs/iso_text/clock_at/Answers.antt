-- No two times are one, and each is one of the calendar.
use Rattle.std.proofs.Common.{◌∙◌, ◌≡◌, ℤ, arith, subst, sym}
use Rattle.std.specs.Prelude.{◌<ℤ◌, ◌*ℤ◌, pos}
use Rattle.std.proofs.lemmas.Int.{ints}
use Rattle.jiff_core.specs.DateTime.{IsCivilNanos, civil_nanos}
use Rattle.jiff_core.proofs.DateTimeLemmas.{civil_nanos_injective, civil_nanos_range}
use Rattle.kohiblad_shell.proofs.IsoLaws.{year_of_day}
use Rattle.kohiblad_shell.proofs.iso_text.clock_at.Goals as goal

pub returns-in_default-clause-none : goal.returns-in_default-clause-none
returns-in_default-clause-none c _ t e =
    let below : c.in-Ok.clock.date.year <ℤ pos 0 = omega (arith, ints) in
    let value : civil_nanos c.in-Ok.clock ≡ c.args.wall *ℤ pos 1000 =
    omega (arith, ints, c.in-Ok.ensures.value) in
    let same = civil_nanos_injective t c.in-Ok.clock (e ∙ sym value) in
    year_of_day t.date c.in-Ok.clock.date same.0 below

pub returns-in_default-2-clause-none : goal.returns-in_default-2-clause-none
returns-in_default-2-clause-none c _ t e =
    let P : ℤ → Type 0 = λ nanos. IsCivilNanos nanos in
    let valid = subst P e (civil_nanos_range t) in
    let none = c.in_default.ensures.succeeds.1 (omega (arith, ints)) in
    absurd (cc)
