use Rattle.std.proofs.Common.{◌≡◌, drop}
use Rattle.typed_vector.specs.Cells.{rows}
use Rattle.typed_vector.specs.ZoneMap.{set_values}
use Rattle.typed_chunk.proofs.beginning.first_text.Given as goal

abbrev pub invariant-loop-index : goal.invariant-loop-index
invariant-loop-index l =
    set_values (drop l.index (rows l.texts l.offsets)) (drop l.index l.has)
    ≡ set_values (rows l.texts l.offsets) l.has
