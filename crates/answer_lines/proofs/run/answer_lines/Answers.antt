use Rattle.std.proofs.Common.{rules}
use Rattle.std.proofs.lemmas.Result.{on_ok_weaker, on_err_weaker}
use Rattle.std.proofs.lemmas.List.{append-nil}
use Rattle.answer_lines.proofs.Replies.{no_line, replies_after_whole, beginning_after_whole}
use Rattle.answer_lines.proofs.Running.{run_begins, run_prompt, run_kept, run_stops, run_chunk}
use Rattle.answer_lines.proofs.Running.{after_read, at_end, on_err}
use Rattle.answer_lines.proofs.run.answer_lines.Goals as goal

pub reads-init : goal.reads-init
reads-init g c = record {
  one_line = rw c.new-start.ensures.items no_line;
  answered = rw c.new-start.ensures.items (run_begins _ _ _ _);
}

pub returns-in_default-clause-beginning : goal.returns-in_default-clause-beginning
returns-in_default-clause-beginning g c =
    run_stops _ _ _ _ _ _ _ _ c.reads.invariant.answered

pub returns-in_default-clause-prompt : goal.returns-in_default-clause-prompt
returns-in_default-clause-prompt g c fault =
    run_prompt _ _ _ _ _ _ _ _
    (run_kept _ _ _ _ _ _ _ _ _ c.reads.invariant.answered
    c.in_default.ensures.bytes)

pub returns-then-count-eq0-clause-done : goal.returns-then-count-eq0-clause-done
returns-then-count-eq0-clause-done g c =
    on_ok_weaker c.answer_rest.result
    (λ then. at_end _ _ _ _ _ c.reads.invariant.answered c.in-Ok.ensures.bytes
    (search rules) (search rules) (λ i whole. replies_after_whole whole then))
    c.answer_rest.ensures.ok

pub returns-then-count-eq0-clause-beginning : goal.returns-then-count-eq0-clause-beginning
returns-then-count-eq0-clause-beginning g c =
    on_err_weaker c.answer_rest.result
    (λ then. at_end _ _ _ _ _ c.reads.invariant.answered c.in-Ok.ensures.bytes
    (search rules) (search rules) (λ i whole. beginning_after_whole whole (rw append-nil then)))
    c.answer_rest.ensures.err

pub returns-in_err-answer_chunk-clause-beginning : goal.returns-in_err-answer_chunk-clause-beginning
returns-in_err-answer_chunk-clause-beginning g c =
    let faults = c.in_err-answer_chunk.ensures.err in
    on_err _ _
    (after_read _ _ _ _ c.reads.invariant.answered c.in-Ok.ensures.bytes.0
    (λ i left known whole. beginning_after_whole whole (faults left)))

pub reads-preserved : goal.reads-preserved
reads-preserved g c = record {
  one_line = c.in_ok-answer_chunk.ensures.ok.start_line;
  answered =
      run_chunk _ _ _ _ _ _ _ c.reads.invariant.answered
      c.in-Ok.ensures.bytes.0 (search rules);
}

pub returns-clause-beginning : goal.returns-clause-beginning
returns-clause-beginning g c =
    run_stops _ _ _ _ _ _ _ _ c.reads.invariant.answered

pub returns-clause-prompt : goal.returns-clause-prompt
returns-clause-prompt g c fault =
    run_prompt _ _ _ _ _ _ _ _ c.reads.invariant.answered
