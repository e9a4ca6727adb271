use Rattle.std.proofs.Common.{◌≡◌, length, map, take}
use Rattle.std.specs.List.{concat}
use Rattle.typed_chunk.specs.TextReading.{offsets_of}
use Rattle.typed_chunk.proofs.found.gather.Given as goal

abbrev pub invariant-loop-entry : goal.invariant-loop-entry
invariant-loop-entry l = record {
  bytes : l.texts.items ≡ concat (take l.entry-index (map (λ entry. entry.now) l.entries));
  ends : l.offsets.items
      ≡ offsets_of (map length (take l.entry-index (map (λ entry. entry.now) l.entries)));
}
