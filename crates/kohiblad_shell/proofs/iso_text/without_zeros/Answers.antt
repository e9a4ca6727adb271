-- Each step leaves out a 0.
use Rattle.std.proofs.Common.{◌≡◌, ◌∙◌, ◌+◌, ◌-◌, ap, arith, refl, sym, take}
use Rattle.kohiblad_shell.specs.IsoTexts.{digits_millionths}
use Rattle.kohiblad_shell.specs.IsoForms.{ends_in_zero}
use Rattle.kohiblad_shell.proofs.IsoLaws.{last_kept, zero_more}
use Rattle.kohiblad_shell.proofs.iso_text.without_zeros.Goals as goal
use Rattle.kohiblad_shell.proofs.iso_text.without_zeros.Goals.{then-loop-count-test+else-digits-count-eq48, else-loop-count-test}

pub loop-count-preserved : goal.loop-count-preserved
loop-count-preserved c =
    let one : c.loop-count.count - 1 + 1 ≡ c.loop-count.count = omega arith in record {
      same = sym (zero_more c.args.digits.now (c.loop-count.count - 1) (omega arith)
          c.requires c.if-digits-count-eq48.true)
          ∙ ap (λ n. digits_millionths (take n c.args.digits.now)) one
          ∙ c.loop-count.invariant.same;
      within = omega arith;
    }

pub returns-clause-short : goal.returns-clause-short
returns-clause-short c =
    elim c.loop-count-test.branch [
      | then-loop-count-test+else-digits-count-eq48 w ↦
          let one : c.loop-count.count - 1 + 1 ≡ c.loop-count.count = omega arith in
          ap (λ n. ends_in_zero (take n c.args.digits.now)) (sym one)
          ∙ last_kept c.args.digits.now (c.loop-count.count - 1) (omega arith)
          w.if-digits-count-eq48.false
      | else-loop-count-test w ↦
          let none : c.loop-count.count ≡ 0 = omega arith in rw none refl
    ]
