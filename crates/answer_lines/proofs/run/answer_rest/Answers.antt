use Rattle.std.proofs.Common.{rules, sym}
use Rattle.std.proofs.lemmas.List.{append-nil}
use Rattle.std.proofs.lemmas.Result.{on_ok_weaker, on_err_weaker}
use Rattle.answer_lines.proofs.Replies.{last_none, appends_last, begins_last, beginning_of_none}
use Rattle.answer_lines.proofs.Running.{reply_in, on_err}
use Rattle.answer_lines.proofs.run.answer_rest.Goals as goal

pub returns-then-is_empty-clause-ok : goal.returns-then-is_empty-clause-ok
returns-then-is_empty-clause-ok g c = last_none _ (search rules)

pub returns-in_err-reply_to-clause-err : goal.returns-in_err-reply_to-clause-err
returns-in_err-reply_to-clause-err g c = on_err _ _ beginning_of_none

pub returns-clause-ok : goal.returns-clause-ok
returns-clause-ok g c =
    on_ok_weaker c.write_bytes.result
    (appends_last (search rules) c.requires
    (reply_in _ _ c.in_ok-reply_to.ensures.ok (sym (append-nil _)) c.as_bytes.ensures.value))
    c.write_bytes.ensures.ok

pub returns-clause-err : goal.returns-clause-err
returns-clause-err g c =
    on_err_weaker c.write_bytes.result
    (begins_last (search rules) c.requires
    (reply_in _ _ c.in_ok-reply_to.ensures.ok (sym (append-nil _)) c.as_bytes.ensures.value))
    c.write_bytes.ensures.err
