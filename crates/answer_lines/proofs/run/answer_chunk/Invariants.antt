use Rattle.std.proofs.Common.{◌++◌, length}
use Rattle.answer_lines.proofs.Running.{Collects}
use Rattle.answer_lines.proofs.run.answer_chunk.Given as goal

abbrev pub invariant-loop-end : goal.invariant-loop-end
invariant-loop-end g l =
    Collects g.A.LineAnswerer.rule l.initial.answerer l.answerer
    (l.initial.start.items ++ l.chunk) l.start.items l.rest l.waiting.items
    (g.W.Write.contents l.initial.writer) (g.W.Write.contents l.writer)

abbrev pub decreases-loop-end : goal.decreases-loop-end
decreases-loop-end g l = length l.rest
