-- The values of the nodes so far.
use Rattle.std.proofs.Common.{◌≡◌, map, take}
use Rattle.jsonb.specs.Node.{node_tree}
use Rattle.jsonb_value.specs.Value.{tree_of}
use Rattle.kohiblad_shell.proofs.template.values_of.Given as goal

abbrev pub invariant-loop-node : goal.invariant-loop-node
invariant-loop-node l = map tree_of l.values.items ≡ map node_tree (take l.node-index l.nodes)
