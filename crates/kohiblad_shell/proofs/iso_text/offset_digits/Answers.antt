use Rattle.std.proofs.Common.{arith, ◌≡◌}
use Rattle.std.specs.Prelude.{neg_ℤ, pos}
use Rattle.std.proofs.lemmas.Int.{ints}
use Rattle.kohiblad_shell.proofs.IsoLaws.{offset_above, offset_below}
use Rattle.kohiblad_shell.proofs.iso_text.offset_digits.Goals as goal
use Rattle.kohiblad_shell.proofs.iso_text.offset_digits.Goals.{then-offset-lt0, else-offset-lt0}

pub returns-clause-some : goal.returns-clause-some
returns-clause-some c =
    elim c.if-offset-lt0.branch [
      | then-offset-lt0 w ↦
          let is : c.args.offset ≡ neg_ℤ (pos c.unsigned_abs-seconds.result) = omega (arith, ints) in
          rw w.sign-is (
            offset_below c.args.offset c.unsigned_abs-seconds.result
                c.two_digits-a.result.0 c.two_digits-a.result.1 c.two_digits-c.result.0
                c.two_digits-c.result.1 is (omega arith)
                (omega arith) c.two_digits-a.ensures.spells c.two_digits-c.ensures.spells,
            λ _. omega (arith, ints),
          )
      | else-offset-lt0 w ↦
          let is : c.args.offset ≡ pos c.unsigned_abs-seconds.result = omega (arith, ints) in
          rw w.sign-is (
            offset_above c.args.offset c.unsigned_abs-seconds.result
                c.two_digits-a.result.0 c.two_digits-a.result.1 c.two_digits-c.result.0
                c.two_digits-c.result.1 is (omega arith)
                (omega arith) c.two_digits-a.ensures.spells c.two_digits-c.ensures.spells,
            λ e. absurd (omega arith),
          )
    ]
