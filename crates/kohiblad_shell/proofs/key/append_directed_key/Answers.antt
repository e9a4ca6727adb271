use Rattle.std.proofs.Common.{arith}
use Rattle.std.proofs.lemmas.Grind.{common_steps}
use Rattle.kohiblad_shell.proofs.key.append_directed_key.Goals as goal

pub returns-in_ok-falling-in-Falling : goal.returns-in_ok-falling-in-Falling
returns-in_ok-falling-in-Falling c = λ whole.
    let (old, items) = c.append.ensures whole in (old, grind (arith, common_steps, items))
