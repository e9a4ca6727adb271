use Rattle.std.proofs.Common.{◌≡◌, drop, fold}
use Rattle.typed_vector.specs.Cells.{rows}
use Rattle.typed_vector.specs.ZoneMap.{set_values}
use Rattle.typed_chunk.specs.Texts.{common, shared}
use Rattle.typed_chunk.proofs.beginning.common.Given as goal

abbrev pub invariant-loop-index : goal.invariant-loop-index
invariant-loop-index l =
    fold shared l.start
    (set_values (drop l.index (rows l.texts l.offsets)) (drop l.index l.has))
    ≡ common l.most (set_values (rows l.texts l.offsets) l.has)
