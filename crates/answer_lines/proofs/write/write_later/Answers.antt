use Rattle.std.proofs.Common.{rules}
use Rattle.std.proofs.lemmas.Result.{on_ok_weaker, on_err_weaker}
use Rattle.answer_lines.proofs.Running.{on_err}
use Rattle.answer_lines.proofs.Output.{prefix_of_more, prefix_after_all, all_but_none}
use Rattle.answer_lines.proofs.write.write_later.Goals as goal

pub returns-in_err-write_bytes-clause-err : goal.returns-in_err-write_bytes-clause-err
returns-in_err-write_bytes-clause-err g c =
    on_err _ _ (prefix_of_more {xs = c.args.waiting.now.items} _ (search rules))

pub returns-clause-ok : goal.returns-clause-ok
returns-clause-ok g c =
    on_ok_weaker c.write_bytes-2.result
    (all_but_none (g.W.Write.contents c.write_bytes.new.writer) c.args.waiting.now.items _
    c.clear.ensures.items
    (search rules))
    c.write_bytes-2.ensures.ok

pub returns-clause-err : goal.returns-clause-err
returns-clause-err g c =
    on_err_weaker c.write_bytes-2.result
    (prefix_after_all {mid = g.W.Write.contents c.write_bytes.new.writer} c.args.waiting.now.items
    (search rules))
    c.write_bytes-2.ensures.err
