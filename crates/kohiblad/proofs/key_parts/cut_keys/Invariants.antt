-- The writer has the keys of the values that were passed.
use Rattle.std.proofs.Common.{◌≡◌, map, take}
use Rattle.std.specs.Prelude.{option_map}
use Rattle.jsonb.specs.Node.{node_tree}
use Rattle.kohiblad.specs.KeyParts.{keys_of_parts}
use Rattle.kohiblad.specs.KeySink.{HasWritten}
use Rattle.kohiblad.proofs.key_parts.cut_keys.Given as goal

abbrev pub invariant-loop-value : goal.invariant-loop-value
invariant-loop-value l = record {
  same_buffer : l.writer.out.ghost_name ≡ l.initial.writer.out.ghost_name;
  written : HasWritten
      (keys_of_parts (map (option_map node_tree) (take l.value-index l.values)))
      l.fn.out l.writer;
}
