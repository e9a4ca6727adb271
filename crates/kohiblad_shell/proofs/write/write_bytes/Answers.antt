use Rattle.std.proofs.Common.{arith}
use Rattle.std.proofs.lemmas.Grind.{common_steps}
use Rattle.answer_lines.proofs.Output.{all_but_more}
use Rattle.kohiblad_shell.proofs.write.write_bytes.Goals as goal

pub loop-rest-preserved : goal.loop-rest-preserved
loop-rest-preserved g c =
    all_but_more c.in-Ok.count c.loop-rest.invariant c.in-Ok.ensures.bytes
    (grind (arith, common_steps))
