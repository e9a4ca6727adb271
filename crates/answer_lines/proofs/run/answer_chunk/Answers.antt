use Rattle.std.proofs.Common.{rules, refl}
use Rattle.answer_lines.proofs.Output.{prefix_of_all}
use Rattle.answer_lines.proofs.Running.{reply_in, collects_none, collects_line, collects_fault}
use Rattle.answer_lines.proofs.Running.{collects_stops, on_err}
use Rattle.answer_lines.proofs.run.answer_chunk.Goals as goal

pub loop-end-init : goal.loop-end-init
loop-end-init g c = rw c.new-waiting.ensures.items (collects_none c.requires)

pub returns-in_err-write_bytes-clause-err : goal.returns-in_err-write_bytes-clause-err
returns-in_err-write_bytes-clause-err g c =
    on_err _ _ (collects_stops _ _ c.loop-end.invariant (search rules))

pub returns-in_default-reply_to-clause-err : goal.returns-in_default-reply_to-clause-err
returns-in_default-reply_to-clause-err g c =
    collects_stops _ _ c.loop-end.invariant (prefix_of_all (search rules))

pub returns-in_err-write_later-clause-err : goal.returns-in_err-write_later-clause-err
returns-in_err-write_later-clause-err g c =
    on_err _ _
    (collects_fault _ _ c.in-Some.end.now c.in-Some.later.now c.as_bytes.result.now
    c.loop-end.invariant (search rules) (search rules)
    (reply_in _ _ c.in-Ok.ensures.ok refl c.as_bytes.ensures.value) (search rules))

pub loop-end-preserved : goal.loop-end-preserved
loop-end-preserved g c =
    rw c.clear.ensures.items
    (collects_line c.in-Some.end.now c.as_bytes.result.now c.loop-end.invariant (search rules)
    (search rules) (reply_in _ _ c.in-Ok.ensures.ok refl c.as_bytes.ensures.value) (search rules))

pub returns-in_err-write_bytes-2-clause-err : goal.returns-in_err-write_bytes-2-clause-err
returns-in_err-write_bytes-2-clause-err g c =
    on_err _ _ (collects_stops _ _ c.loop-end.invariant (search rules))

pub returns-in_err-extend_from_slice-clause-err : goal.returns-in_err-extend_from_slice-clause-err
returns-in_err-extend_from_slice-clause-err g c =
    on_err _ _ (collects_stops _ _ c.loop-end.invariant (prefix_of_all (search rules)))
