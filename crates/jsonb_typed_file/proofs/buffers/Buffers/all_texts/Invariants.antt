-- The texts so far are texts.
use Rattle.std.proofs.Common.{◌<◌, ℕ}
use Rattle.jsonb_typed_file.specs.Values.{IsTextOfRow}
use Rattle.jsonb_typed_file.proofs.buffers.Buffers.all_texts.Given as goal

abbrev pub invariant-loop-index : goal.invariant-loop-index
invariant-loop-index l = (index : ℕ) → index < l.index
    → IsTextOfRow l.self.column_type l.self.numbers.now l.self.texts.now index
