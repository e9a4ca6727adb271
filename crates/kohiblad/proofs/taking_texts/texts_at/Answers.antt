use Rattle.kohiblad.specs.TakenTexts.{IsBytesAt}
use Rattle.kohiblad.proofs.TakenTextLaws.{no_texts, one_more_row}
use Rattle.kohiblad.proofs.taking_texts.texts_at.Goals as goal

pub loop-place-init : goal.loop-place-init
loop-place-init c =
    no_texts (IsBytesAt c.args.bytes_type c.args.bytes.now) c.args.places
    c.in_ok-texts.texts c.in_ok-texts.ensures.ok

pub loop-place-preserved : goal.loop-place-preserved
loop-place-preserved c =
    let walk = c.loop-place in
    one_more_row (IsBytesAt c.args.bytes_type c.args.bytes.now) c.args.places walk.left
    c.next.new.self c.in-Some.place walk.texts c.push.new.self
    (c.text_at-state.result.0.now, c.text_at-state.result.1) walk.invariant c.in-Some.ensures
    c.text_at-state.ensures c.in_ok-push.ensures.pushed
