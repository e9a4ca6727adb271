use Rattle.std.proofs.Common.{ap, inl, inr, subst, ◌∙◌, List, ℕ}
use Rattle.jsonb.specs.Within.{meaning_within}
use Rattle.jsonb_value.specs.Meaning.{Meaning}
use Rattle.jsonb_comparable.specs.KeyLaws.{IsKeyOf}
use Rattle.jsonb_comparable.specs.TreeKey.{meaning_key}
use Rattle.kohiblad.specs.Status.{IsHandedOver, code}
use Rattle.kohiblad.proofs.KeyWriting.{key_written}
use Rattle.kohiblad.proofs.key.kohiblad_key.Goals as goal

pub returns-in-Ok : goal.returns-in-Ok
returns-in-Ok c =
    let meaning = meaning_within c.args.depth c.args.bytes.now in
    let over = c.hand_over in
    let same = c.as_bytes.ensures ∙ c.in-Ok.ensures.ok ∙ ap meaning_key c.within.ensures.meaning in
    key_written meaning (meaning_key meaning) c.args.out.now over.new.out over.new.size over.result
    (subst (λ (m : Meaning). IsKeyOf m (meaning_key m)) c.within.ensures.meaning c.new.ensures.laws)
    (inl (subst (λ (key : List ℕ). IsHandedOver key c.args.out.now over.new.out over.new.size
    over.result) same over.ensures))

pub returns-in-Err : goal.returns-in-Err
returns-in-Err c =
    let meaning = meaning_within c.args.depth c.args.bytes.now in
    let refused = c.refuse in
    key_written meaning (meaning_key meaning) c.args.out.now refused.new.out refused.new.size
    refused.result
    (subst (λ (m : Meaning). IsKeyOf m (meaning_key m)) c.within.ensures.meaning c.new.ensures.laws)
    (inr (refused.ensures.0 ∙ c.code.ensures ∙ ap code c.in-Err.ensures.memory, refused.ensures.1))
