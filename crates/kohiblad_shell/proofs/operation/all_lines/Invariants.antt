-- The lines of the values so far.
use Rattle.std.proofs.Common.{◌≡◌, map, take}
use Rattle.jsonb.specs.Node.{node_tree}
use Rattle.kohiblad_shell.specs.Operations.{value_lines}
use Rattle.kohiblad_shell.proofs.operation.all_lines.Given as goal

abbrev pub invariant-loop-node : goal.invariant-loop-node
invariant-loop-node l =
    l.lines.items ≡ value_lines l.style (map node_tree (take l.node-index l.nodes))
