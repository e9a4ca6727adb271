use Rattle.kohiblad.specs.TakenTexts.{IsBytesRow}
use Rattle.kohiblad.proofs.TakenTextLaws.{no_texts, one_more_row}
use Rattle.kohiblad.proofs.taking_texts.texts_of.Goals as goal

pub loop-row-init : goal.loop-row-init
loop-row-init c =
    no_texts (IsBytesRow c.args.reading c.args.bytes_type c.args.path.now) c.args.rows
    c.in_ok-texts.texts c.in_ok-texts.ensures.ok

pub loop-row-preserved : goal.loop-row-preserved
loop-row-preserved c =
    let walk = c.loop-row in
    one_more_row (IsBytesRow c.args.reading c.args.bytes_type c.args.path.now)
    c.args.rows walk.left c.next.new.self c.in-Some.row.now walk.texts c.push.new.self
    (c.read_text-state.result.0.now, c.read_text-state.result.1) walk.invariant c.in-Some.ensures
    c.read_text-state.ensures c.in_ok-push.ensures.pushed
