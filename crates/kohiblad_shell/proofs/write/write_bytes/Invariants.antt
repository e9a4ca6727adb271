use Rattle.std.proofs.Common.{length}
use Rattle.answer_lines.specs.Output.{AppendsAllBut}
use Rattle.kohiblad_shell.proofs.write.write_bytes.Given as goal

abbrev pub invariant-loop-rest : goal.invariant-loop-rest
invariant-loop-rest g l =
    AppendsAllBut l.rest (g.W.Write.contents l.initial.writer) (g.W.Write.contents l.writer) l.bytes

abbrev pub decreases-loop-rest : goal.decreases-loop-rest
decreases-loop-rest g l = length l.rest
