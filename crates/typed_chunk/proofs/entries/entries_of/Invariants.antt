use Rattle.std.proofs.Common.{◌≡◌, ◌≤◌, drop, fold, length, map, true}
use Rattle.typed_chunk.specs.Entries.{entries_of, with_entry}
use Rattle.typed_chunk.specs.Places.{texts_ascend}
use Rattle.typed_chunk.proofs.entries.entries_of.Given as goal
use Rattle.typed_vector.specs.Cells.{rows}
use Rattle.typed_vector.specs.ZoneMap.{set_values}

abbrev pub invariant-loop-index : goal.invariant-loop-index
invariant-loop-index l = record {
  so_far : fold with_entry (map (λ entry. entry.now) l.entries.items)
      (set_values (drop l.index (rows l.texts l.offsets)) (drop l.index l.has))
      ≡ entries_of (set_values (rows l.texts l.offsets) l.has);
  ascend : texts_ascend (map (λ entry. entry.now) l.entries.items) ≡ true;
  few : length l.entries.items ≤ 256;
}
