use Rattle.std.proofs.Common.{rules, ◌≡◌, [], inl, ap}
use Rattle.jsonb_cli.specs.Answers.{no_array, built}
use Rattle.jsonb_cli.proofs.Answering.{nothing_read, one_more_read, arr_unread, all_read, failed}
use Rattle.jsonb_cli.proofs.Answering.{said_of}
use Rattle.jsonb_cli.proofs.calls.answer_arr.Goals as goal

pub loop-word-init : goal.loop-word-init
loop-word-init c =
    nothing_read c.into_iter-word-iterator.ensures.into_iter_gives c.new-builder.ensures

pub returns-in-Err : goal.returns-in-Err
returns-in-Err c =
    arr_unread c.next.new.self c.in-Some.word.now c.loop-word.invariant (search rules)
    c.in-Err.ensures.refused
    (λ bad. c.push_document.ensures.bad (rw bad at c.in-Err.is))

pub loop-word-preserved : goal.loop-word-preserved
loop-word-preserved c =
    let (bytes, (hex, pushed)) = c.in_default.ensures.ok in
    one_more_read c.in-Some.word.now bytes c.loop-word.invariant (search rules) hex pushed

pub returns-in-Ok : goal.returns-in-Ok
returns-in-Ok c =
    let end : c.loop-word.word-iterator ≡ [] = search rules in
    let read = rw end at c.loop-word.invariant in
    inl (built read.inputs _ (all_read read) (rw read.holds at c.in-Ok.ensures.ok)
    (rw c.to_vec.ensures))

pub returns-in-Err-build : goal.returns-in-Err-build
returns-in-Err-build c =
    let end : c.loop-word.word-iterator ≡ [] = search rules in
    let read = rw end at c.loop-word.invariant in
    failed c.in-Err-build.ensures.limits.only
    (λ is. no_array read.inputs (all_read read)
    (rw read.holds at (c.build.ensures.limits.past.0 (rw is at c.in-Err-build.is)))
    (ap said_of is))
