use Rattle.std.proofs.Common.{◌≡◌, ◌+◌, ◌*◌, ◌≤◌, true, length}
use Rattle.kohiblad.specs.Locating.{spans_from}
use Rattle.kohiblad.specs.Rows.{are_offsets}
use Rattle.kohiblad.proofs.LocatingLaws.{LocatedSoFar}
use Rattle.kohiblad.proofs.locating.locate_rows.Given as goal

abbrev pub invariant-loop-end : goal.invariant-loop-end
invariant-loop-end l = record {
  offsets : are_offsets (length l.bytes) l.start l.left ≡ true;
  room : l.at + length l.left * length l.names ≤ length l.fn.places;
  so_far : LocatedSoFar l.reading l.bytes l.names (spans_from l.fn.start l.fn.ends)
      (spans_from l.start l.left) l.at l.fn.places l.places;
}

abbrev pub decreases-loop-end : goal.decreases-loop-end
decreases-loop-end l = length l.left
