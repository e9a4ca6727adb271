-- What was taken so far, and what is left, is what there is to take, and to leave.
use Rattle.std.proofs.Common.{◌≡◌, ◌++◌, drop}
use Rattle.array_items.specs.Values.{left_from, place_after, value_from}
use Rattle.array_items.proofs.value.take_bytes.Given as goal

abbrev pub invariant-loop-index : goal.invariant-loop-index
invariant-loop-index l = record {
  value : l.initial.row.items ++ value_from l.initial.place l.held
      ≡ l.row.items ++ value_from l.place (drop l.index l.held);
  left : left_from l.initial.place l.held ≡ left_from l.place (drop l.index l.held);
  place : place_after l.initial.place l.held ≡ place_after l.place (drop l.index l.held);
}
