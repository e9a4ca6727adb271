use Rattle.std.proofs.Common.{◌<◌, ◌++◌, ℕ, List, length, arith, ap₂, sym, ◌∙◌}
use Rattle.kohiblad_shell.proofs.ValueLaws.{value_lines-more}
use Rattle.kohiblad_shell.proofs.operation.all_lines.Goals as goal

pub loop-node-preserved : goal.loop-node-preserved
loop-node-preserved c =
    let low : c.loop-node.node-index < length c.args.nodes.now = omega arith in
    c.in_ok-extend_from_slice.ensures.items ∙ ap₂ (λ (a b : List ℕ). a ++ b) c.loop-node.invariant
    (c.deref.ensures.value ∙ c.in_ok-line.ensures.ok)
    ∙ sym (value_lines-more c.args.style c.args.nodes.now c.loop-node.node-index
    c.node-item.result low c.node-item.is)
