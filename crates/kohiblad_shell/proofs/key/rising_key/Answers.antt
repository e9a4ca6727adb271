use Rattle.std.proofs.Common.{arith}
use Rattle.std.proofs.lemmas.Grind.{common_steps}
use Rattle.kohiblad_shell.proofs.key.rising_key.Goals as goal

pub returns-then-key : goal.returns-then-key
returns-then-key c =
    let (old, items) = c.append_path_key.ensures c.if-key.true in grind (arith, common_steps, items)
