use Rattle.std.proofs.Common.{ℕ, ◌<◌, get_or}
use Rattle.typed_vector.proofs.OffsetLaws.{IsPlace, IsWritten}
use Rattle.typed_vector.proofs.rest.RestParts.write_offsets.Given as goal

abbrev pub invariant-loop-row : goal.invariant-loop-row
invariant-loop-row l = record {
  place : IsPlace l.self.indices.now l.row l.place;
  written : (row : ℕ) → row < l.row
      → IsWritten l.self.indices.now l.self.offsets.now row (get_or l.out row 0);
}
