use Rattle.std.proofs.Common.{◌≡◌, ◌∷◌, ◌++◌, ◌∙◌, ℕ, List, ap, arith, length, refl}
use Rattle.std.proofs.Common.{replicate, sym, true, false}
use Rattle.typed_chunk.specs.Flags.{flags}
use Rattle.typed_chunk.proofs.FlagLaws.{all-true, begins_0, begins_1, flags_all, flags_none}
use Rattle.typed_chunk.proofs.FlagLaws.{some-false, some-true}
use Rattle.typed_chunk.proofs.flags.read_behind.Goals as goal

pub returns-then-first-eq0-clause-ok : goal.returns-then-first-eq0-clause-ok
returns-then-first-eq0-clause-ok c =
    let bytes = c.args.bytes.now in
    let count = length c.args.has.now in
    let is : c.args.first ≡ 0 = omega arith in
    ap (λ (x : ℕ). x ∷ bytes) is
    ∙ sym (ap (λ (front : List ℕ). front ++ bytes)
    (ap flags c.unset_all.ensures ∙ flags_none (replicate count false) (some-false count)))

pub returns-then-first-eq0-clause-back : goal.returns-then-first-eq0-clause-back
returns-then-first-eq0-clause-back c = λ items rest many e.
    let bytes = c.args.bytes.now in
    let is : c.args.first ≡ 0 = omega arith in
    let parts = begins_0 items bytes rest (ap (λ (x : ℕ). x ∷ bytes) (sym is) ∙ e) in (
      refl,
      c.unset_all.ensures
          ∙ ap (λ (n : ℕ). replicate n false) (sym many) ∙ sym parts.0,
      parts.1,
    )

pub returns-then-first-eq1-clause-ok : goal.returns-then-first-eq1-clause-ok
returns-then-first-eq1-clause-ok c =
    let bytes = c.args.bytes.now in
    let count = length c.args.has.now in
    let is : c.args.first ≡ 1 = omega arith in
    ap (λ (x : ℕ). x ∷ bytes) is
    ∙ sym (ap (λ (front : List ℕ). front ++ bytes)
    (ap flags c.set_all.ensures
    ∙ flags_all (replicate count true) (some-true count c.requires.some) (all-true count)))

pub returns-then-first-eq1-clause-back : goal.returns-then-first-eq1-clause-back
returns-then-first-eq1-clause-back c = λ items rest many e.
    let bytes = c.args.bytes.now in
    let is : c.args.first ≡ 1 = omega arith in
    let parts = begins_1 items bytes rest (ap (λ (x : ℕ). x ∷ bytes) (sym is) ∙ e) in (
      refl,
      c.set_all.ensures
          ∙ ap (λ (n : ℕ). replicate n true) (sym many) ∙ sym parts.0,
      parts.1,
    )
