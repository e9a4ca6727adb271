-- The text is a date, a T, a time and a fraction.
use Rattle.std.proofs.Common.{◌≡◌, ◌++◌, ◌∷◌, append_assoc, length, refl, rules}
use Rattle.std.specs.Prelude.{◌/◌, Some}
use Rattle.jiff_core.specs.Date.{epoch_day}
use Rattle.jiff_core.specs.Time.{time_seconds}
use Rattle.kohiblad_shell.specs.IsoTexts.{wall_micros, wall_said}
use Rattle.kohiblad_shell.proofs.IsoLaws.{plain_joined, wall_joined}
use Rattle.kohiblad_shell.proofs.iso_text.clock_text.Goals as goal

pub returns-clause-says : goal.returns-clause-says
unfolding wall_said
returns-clause-says c =
    let date : length c.date_digits.result ≡ 10 = search rules in
    let time : length c.time_digits.result ≡ 8 = search rules in
    let items : c.extend_from_slice-3.new.self.items ≡ c.date_digits.result
    ++ 84 ∷ (c.time_digits.result ++ c.in_ok-fraction.fraction.items) =
    rw (
      c.in_ok-extend_from_slice-3.ensures.items,
      c.deref.ensures.value,
      c.in_ok-extend_from_slice-2.ensures.items,
      c.in_ok-push.ensures.items,
      c.in_ok-extend_from_slice.ensures.items,
      c.new-text.ensures.items,
    ) (simp append_assoc) in
    let micros = wall_micros (epoch_day c.args.clock.date) (time_seconds c.args.clock.time)
    (c.args.clock.time.subsec_nanosecond / 1000) in
    let says : wall_said c.date_digits.result c.time_digits.result c.in_ok-fraction.fraction.items
    ≡ Some micros =
    rw (c.date_digits.ensures, c.time_digits.ensures, c.in_ok-fraction.ensures.says) refl in
    rw items (wall_joined c.date_digits.result c.time_digits.result
    c.in_ok-fraction.fraction.items micros date time says)

pub returns-clause-plain : goal.returns-clause-plain
returns-clause-plain c =
    let date : length c.date_digits.result ≡ 10 = search rules in
    let time : length c.time_digits.result ≡ 8 = search rules in
    let items : c.extend_from_slice-3.new.self.items ≡ c.date_digits.result
    ++ 84 ∷ (c.time_digits.result ++ c.in_ok-fraction.fraction.items) =
    rw (
      c.in_ok-extend_from_slice-3.ensures.items,
      c.deref.ensures.value,
      c.in_ok-extend_from_slice-2.ensures.items,
      c.in_ok-push.ensures.items,
      c.in_ok-extend_from_slice.ensures.items,
      c.new-text.ensures.items,
    ) (simp append_assoc) in
    rw items (plain_joined c.date_digits.result c.time_digits.result
    c.in_ok-fraction.fraction.items date time c.in_ok-fraction.ensures.short)
