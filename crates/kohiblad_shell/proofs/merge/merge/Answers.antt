use Rattle.kohiblad_shell.proofs.MergeSteps.{flush_failed, flushed_begins, flushed_whole}
use Rattle.kohiblad_shell.proofs.merge.merge.Goals as goal

pub returns-in-Ok-clause-done : goal.returns-in-Ok-clause-done
returns-in-Ok-clause-done g c =
    flushed_whole g.R.Read.remaining (g.L.LineWorker.rule c.args.worker.now) c.args.form
    c.args.readers.now c.merge_rows-merged.result
    (g.W.Write.contents c.args.writer.now) (g.W.Write.contents c.merge_rows-merged.new.writer)
    (g.W.Write.contents c.flush.new.writer) c.flush.ensures.kept c.merge_rows-merged.ensures.done

pub returns-in-Ok-clause-beginning : goal.returns-in-Ok-clause-beginning
returns-in-Ok-clause-beginning g c =
    flushed_begins g.R.Read.remaining (g.L.LineWorker.rule c.args.worker.now) c.args.form
    c.args.readers.now c.merge_rows-merged.result
    (g.W.Write.contents c.args.writer.now) (g.W.Write.contents c.merge_rows-merged.new.writer)
    (g.W.Write.contents c.flush.new.writer) c.flush.ensures.kept
    c.merge_rows-merged.ensures.beginning

pub returns-in-Err-clause-beginning : goal.returns-in-Err-clause-beginning
returns-in-Err-clause-beginning g c =
    flush_failed g.R.Read.remaining (g.L.LineWorker.rule c.args.worker.now) c.args.form
    c.args.readers.now c.merge_rows-merged.result c.in-Err.halt
    (g.W.Write.contents c.args.writer.now) (g.W.Write.contents c.merge_rows-merged.new.writer)
    (g.W.Write.contents c.flush.new.writer) c.flush.ensures.kept
    c.merge_rows-merged.ensures.done c.merge_rows-merged.ensures.beginning
