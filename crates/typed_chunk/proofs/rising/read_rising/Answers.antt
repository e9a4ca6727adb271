use Rattle.std.proofs.Common.{◌≡◌, ◌∙◌, ◌-◌, ◌≤◌, ◌∷◌, ℕ, ℤ, Err, FitsSigned, List, None, Some, ap}
use Rattle.std.proofs.Common.{ap₂, arith, drop, length, map, of_z, pos, refl, rules, subst, sym}
use Rattle.std.proofs.Common.{take}
use Rattle.std.proofs.Common.{to_z}
use Rattle.std.specs.Int.{w64}
use Rattle.std.proofs.lemmas.Bool.{false≢true}
use Rattle.std.proofs.lemmas.Int.{to_z-of_z}
use Rattle.std.proofs.lemmas.List.{take_rest}
use Rattle.typed_chunk.specs.Frame.{IsFrame, numbers_in, unsigned_word}
use Rattle.typed_chunk.specs.Rising.{IsRising, last_fault, rising_first, values_from}
use Rattle.typed_chunk.proofs.HeadedLaws.{some_not_none}
use Rattle.typed_chunk.proofs.RisingLaws.{last_kept}
use Rattle.typed_chunk.proofs.RisingReadLaws.{fits_below, last_passed, last_refused, rising_parts}
use Rattle.typed_chunk.proofs.RisingReadLaws.{rising_read, steps_refused}
use Rattle.typed_chunk.proofs.rising.read_rising.Goals as goal

behind_part : (steps : List ℕ) (bytes : List ℕ)
    → IsFrame (unsigned_word 8) (map pos steps) (drop 8 bytes)
    → IsFrame (unsigned_word 8) (map pos steps) (take (length bytes - 8) (drop 8 bytes))
behind_part steps bytes are =
    subst (λ bs. IsFrame (unsigned_word 8) (map pos steps) bs) (sym (take_rest bytes 8)) are

pub returns-in_err-read_naturals-clause-fault : goal.returns-in_err-read_naturals-clause-fault
returns-in_err-read_naturals-clause-fault c =
    let bytes = c.args.bytes.now in
    let handed : c.from_residual.result ≡ Err c.in_err-read_naturals.field-0.0 = search rules in
    let long : 8 ≤ length bytes = omega arith in
    rw handed (steps_refused (length c.args.values.now) (length c.args.steps.now) bytes
    (take (length bytes - 8) (drop 8 bytes)) c.in_err-read_naturals.field-0.0 long
    c.requires.room (take_rest bytes 8) c.in_err-read_naturals.ensures.fault)

pub returns-in_err-read_naturals-clause-back : goal.returns-in_err-read_naturals-clause-back
returns-in_err-read_naturals-clause-back c = λ items count fit are.
    let bytes = c.args.bytes.now in
    let p = rising_parts items bytes fit are in
    let many : length p.steps ≡ length c.args.steps.now =
    omega (arith, p.many, count, c.requires.room) in
    let back = c.in_err-read_naturals.ensures.back p.steps many p.fit
    (behind_part p.steps bytes p.behind) in
    absurd (false≢true back.0)

pub returns-in_err-check_last-clause-fault : goal.returns-in_err-check_last-clause-fault
returns-in_err-check_last-clause-fault c =
    let bytes = c.args.bytes.now in
    let first = c.first_in-first.result in
    let fits : FitsSigned w64 first = search rules in
    let handed : c.from_residual-in_err-check_last.result ≡ Err c.in_err-check_last.field-0.0 =
    search rules in
    let long : 8 ≤ length bytes = omega arith in
    rw handed (last_refused (length c.args.values.now) (length c.args.steps.now) bytes
    (take (length bytes - 8) (drop 8 bytes)) c.read_naturals.new.numbers
    (to_z w64 (of_z w64 first)) (Some c.in_err-check_last.field-0.0) long c.requires.room
    (take_rest bytes 8) c.in_ok-read_naturals.ensures.fault c.in_ok-read_naturals.ensures.behind
    (to_z-of_z w64 first fits ∙ c.first_in-first.ensures) c.in_err-check_last.ensures)

pub returns-in_err-check_last-clause-back : goal.returns-in_err-check_last-clause-back
returns-in_err-check_last-clause-back c = λ items count fit are.
    let bytes = c.args.bytes.now in
    let first = c.first_in-first.result in
    let fits : FitsSigned w64 first = search rules in
    let p = rising_parts items bytes fit are in
    let many : length p.steps ≡ length c.args.steps.now =
    omega (arith, p.many, count, c.requires.room) in
    let back = c.in_ok-read_naturals.ensures.back p.steps many p.fit
    (behind_part p.steps bytes p.behind) in
    let is : to_z w64 (of_z w64 first) ≡ p.first =
    to_z-of_z w64 first fits ∙ c.first_in-first.ensures ∙ p.read in
    absurd (some_not_none (c.in_err-check_last.ensures
    ∙ ap₂ (λ (z : ℤ) (ns : List ℕ). last_fault 63 z ns) is back.1
    ∙ last_kept 63 p.first p.steps (fits_below _ p.last)))

pub write_values-requires-clause-fits : goal.write_values-requires-clause-fits
write_values-requires-clause-fits c =
    let first = c.first_in-first.result in
    let fits : FitsSigned w64 first = search rules in
    last_passed (to_z w64 (of_z w64 first)) c.read_naturals.new.numbers
    (subst (FitsSigned w64) (sym (to_z-of_z w64 first fits)) fits)
    (sym c.in_ok-check_last.ensures)

pub returns-clause-fault : goal.returns-clause-fault
returns-clause-fault c =
    let bytes = c.args.bytes.now in
    let first = c.first_in-first.result in
    let fits : FitsSigned w64 first = search rules in
    let long : 8 ≤ length bytes = omega arith in
    last_refused (length c.args.values.now) (length c.args.steps.now) bytes
    (take (length bytes - 8) (drop 8 bytes)) c.read_naturals.new.numbers
    (to_z w64 (of_z w64 first)) None long c.requires.room
    (take_rest bytes 8) c.in_ok-read_naturals.ensures.fault c.in_ok-read_naturals.ensures.behind
    (to_z-of_z w64 first fits ∙ c.first_in-first.ensures) c.in_ok-check_last.ensures

pub returns-clause-ok : goal.returns-clause-ok
returns-clause-ok c =
    let bytes = c.args.bytes.now in
    let steps = c.read_naturals.new.numbers in
    let first = c.first_in-first.result in
    let fits : FitsSigned w64 first = search rules in
    let long : 8 ≤ length bytes = omega arith in
    subst (λ vs. IsRising w64 vs bytes)
    (sym (c.write_values.ensures
    ∙ ap (λ (z : ℤ). z ∷ values_from z steps)
    (to_z-of_z w64 first fits ∙ c.first_in-first.ensures)))
    (rising_read steps bytes (λ i. omega (arith, c.type_inv.bytes i)) long
    (subst (λ bs. IsFrame (unsigned_word 8) (map pos steps) bs) (take_rest bytes 8)
    c.in_ok-read_naturals.ensures.ok))

pub returns-clause-back : goal.returns-clause-back
returns-clause-back c = λ items count fit are.
    let bytes = c.args.bytes.now in
    let first = c.first_in-first.result in
    let fits : FitsSigned w64 first = search rules in
    let p = rising_parts items bytes fit are in
    let many : length p.steps ≡ length c.args.steps.now =
    omega (arith, p.many, count, c.requires.room) in
    let back = c.in_ok-read_naturals.ensures.back p.steps many p.fit
    (behind_part p.steps bytes p.behind) in
    let is : to_z w64 (of_z w64 first) ≡ p.first =
    to_z-of_z w64 first fits ∙ c.first_in-first.ensures ∙ p.read in (
      refl,
      c.write_values.ensures
          ∙ ap₂ (λ (z : ℤ) (ns : List ℕ). z ∷ values_from z ns) is back.1 ∙ p.is,
    )

pub returns-clause-told : goal.returns-clause-told
returns-clause-told c =
    let bytes = c.args.bytes.now in
    let count = length c.args.values.now in
    let first = c.first_in-first.result in
    let fits : FitsSigned w64 first = search rules in
    let is : to_z w64 (of_z w64 first) ≡ rising_first w64 bytes =
    to_z-of_z w64 first fits ∙ c.first_in-first.ensures in
    let many : length c.args.steps.now ≡ count - 1 = omega (arith, c.requires.room) in
    c.write_values.ensures
    ∙ ap₂ (λ (z : ℤ) (ns : List ℕ). z ∷ values_from z ns) is
    (c.in_ok-read_naturals.ensures.behind
    ∙ ap₂ (λ (n : ℕ) (bs : List ℕ). numbers_in 8 n bs) many (take_rest bytes 8))
