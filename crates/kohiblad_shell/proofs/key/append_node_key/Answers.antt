use Rattle.std.proofs.Common.{◌++◌, ap, ◌∙◌}
use Rattle.kohiblad_shell.proofs.KeyLaws.{document_key}
use Rattle.kohiblad_shell.proofs.key.append_node_key.Goals as goal

pub returns-in-Container : goal.returns-in-Container
returns-in-Container c =
    rw c.in-Container.is (λ whole.
    let (old, items) = c.append_key_to.ensures whole in (
      old,
      items ∙ ap (λ k. c.args.key.now.bytes.items ++ k) (document_key c.in-Container.document),
    ))
