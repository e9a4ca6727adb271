-- The text is empty, or a point and the digits that are kept.
use Rattle.std.proofs.Common.{◌≡◌, ◌∙◌, ◌∷◌, arith, refl}
use Rattle.kohiblad_shell.proofs.IsoLaws.{says_after_point, short_after_point}
use Rattle.kohiblad_shell.proofs.iso_text.fraction_digits.Goals as goal
use Rattle.kohiblad_shell.proofs.iso_text.fraction_digits.Goals.{then-micros-gt0+in_ok-push+in_ok-extend_from_slice, else-micros-gt0}

pub returns-clause-says : goal.returns-clause-says
returns-clause-says c =
    elim c.if-micros-gt0.branch [
      | then-micros-gt0+in_ok-push+in_ok-extend_from_slice w ↦
          let items : c.if-micros-gt0.text.items ≡ 46 ∷ w.without_zeros.result.now =
          rw (
            w.text-is,
            w.in_ok-extend_from_slice.ensures.items,
            w.in_ok-push.ensures.items,
            c.new-text.ensures.items,
          ) refl in
          rw items (says_after_point w.without_zeros.result.now c.args.micros (omega arith)
          (w.without_zeros.ensures.same ∙ w.six_digits-digits.ensures))
      | else-micros-gt0 w ↦
          let none : c.args.micros ≡ 0 = omega arith in
          rw (w.text-is, c.new-text.ensures.items, none) refl
    ]

pub returns-clause-short : goal.returns-clause-short
returns-clause-short c =
    elim c.if-micros-gt0.branch [
      | then-micros-gt0+in_ok-push+in_ok-extend_from_slice w ↦
          let items : c.if-micros-gt0.text.items ≡ 46 ∷ w.without_zeros.result.now =
          rw (
            w.text-is,
            w.in_ok-extend_from_slice.ensures.items,
            w.in_ok-push.ensures.items,
            c.new-text.ensures.items,
          ) refl in
          rw items (short_after_point w.without_zeros.result.now w.without_zeros.ensures.short)
      | else-micros-gt0 w ↦ rw (w.text-is, c.new-text.ensures.items) refl
    ]
