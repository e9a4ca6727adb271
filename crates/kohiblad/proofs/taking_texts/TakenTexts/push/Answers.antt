use Rattle.std.proofs.Common.{◌≡◌, ℕ, ◌∷◌, ◌++◌, [], length, ap, ◌∙◌, arith}
use Rattle.std.proofs.lemmas.Grind.{common_steps}
use Rattle.kohiblad.specs.declared.taking_texts.TakenTexts.{TakenTexts}
use Rattle.kohiblad.proofs.TakenTextLaws.{one_more_text}
use Rattle.kohiblad.proofs.taking_texts.TakenTexts.push.Goals as goal

pub returns-clause-pushed : goal.returns-clause-pushed
returns-clause-pushed c taken are =
    let kept = c.args.self.now in
    let texts = c.extend_from_slice.new.self.items in
    let number : c.len.result ≡ length texts = grind (arith, common_steps) in
    let after : TakenTexts = record {
      texts = c.extend_from_slice.new.self;
      offsets = c.push.new.self;
      states = c.push-2.new.self;
    } in
    one_more_text taken kept after (c.args.text.now, c.args.state) are
    c.in_ok-extend_from_slice.ensures.items
    (c.in_ok-push.ensures.items ∙ ap (λ (k : ℕ). kept.offsets.items ++ k ∷ []) number)
    c.in_ok-push-2.ensures.items
