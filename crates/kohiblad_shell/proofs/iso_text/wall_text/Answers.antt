-- The text says what the clock shows.
use Rattle.std.proofs.Common.{◌≡◌, ◌∙◌, ap, arith}
use Rattle.std.specs.Prelude.{◌*ℤ◌, Some, pos}
use Rattle.std.proofs.lemmas.Int.{ints}
use Rattle.jiff_core.specs.DateTime.{civil_nanos}
use Rattle.kohiblad_shell.proofs.IsoLaws.{wall_of_clock}
use Rattle.kohiblad_shell.proofs.iso_text.wall_text.Goals as goal

pub returns-in_ok-clock_text-in-Some : goal.returns-in_ok-clock_text-in-Some
returns-in_ok-clock_text-in-Some c =
    let value : civil_nanos c.in-Some.clock ≡ c.args.wall *ℤ pos 1000 =
    omega (arith, ints, c.in-Some.ensures.some.1) in (
      c.in_ok-clock_text-in-Some.ensures.says
          ∙ ap (λ wall. Some wall) (wall_of_clock c.in-Some.clock c.args.wall value),
      c.in_ok-clock_text-in-Some.ensures.plain,
    )
