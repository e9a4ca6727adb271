use Rattle.answer_lines.specs.Lines.{IsLine}
use Rattle.answer_lines.specs.Session.{IsPrompt}
use Rattle.answer_lines.proofs.run.answer_lines.Given as goal

abbrev pub invariant-reads : goal.invariant-reads
invariant-reads g l = record {
  one_line : IsLine l.start.items;
  answered : IsPrompt g.A.LineAnswerer.rule l.initial.answerer l.answerer
      (g.R.LineReader.remaining l.initial.reader)
      (g.R.LineReader.remaining l.reader) l.start.items
      (g.W.Write.contents l.initial.writer) (g.W.Write.contents l.writer);
}
