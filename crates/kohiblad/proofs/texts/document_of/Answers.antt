use Rattle.std.proofs.Common.{arith, inl, subst, List, ℕ}
use Rattle.jsonb.specs.Owned.{result_bytes}
use Rattle.jsonb.specs.Parsing.{ParsesUnderWithin}
use Rattle.kohiblad.specs.Output.{rule_of}
use Rattle.kohiblad.proofs.ExponentRules.{forbidden, allowed}
use Rattle.kohiblad.proofs.texts.document_of.Goals as goal

pub returns-in-Ok : goal.returns-in-Ok
returns-in-Ok c =
    let made = result_bytes c.parse_within.result in
    let text = c.in-Ok.ensures in
    inl (
      text.1,
      subst
          (λ (t : List ℕ). ParsesUnderWithin (rule_of c.args.exponents) c.args.depth t made) text.0
          (forbidden (λ rule. ParsesUnderWithin rule c.args.depth c.in-Ok.text.now made)
          c.args.exponents (omega (arith, c.if-exponents-eq0.true)) c.parse_within.ensures.value),
    )

pub returns-in-Ok-2 : goal.returns-in-Ok-2
returns-in-Ok-2 c =
    let made = result_bytes c.parse_with_exponents_within.result in
    let text = c.in-Ok.ensures in
    inl (
      text.1,
      subst
          (λ (t : List ℕ). ParsesUnderWithin (rule_of c.args.exponents) c.args.depth t made) text.0
          (allowed (λ rule. ParsesUnderWithin rule c.args.depth c.in-Ok.text.now made)
          c.args.exponents (omega (arith, c.if-exponents-eq0.false))
          c.parse_with_exponents_within.ensures.value),
    )
