-- The value is to be found among the members that are left.
use Rattle.std.proofs.Common.{◌≡◌, length}
use Rattle.jsonb_functions.specs.PathPlaces.{member_entry, named_entry, read_entries}
use Rattle.jsonb_functions.proofs.places.member_entry.Given as goal

abbrev pub invariant-loop-key : goal.invariant-loop-key
invariant-loop-key l = record {
  found : named_entry l.name l.bytes (read_entries l.keys.entries) (read_entries l.values.entries)
      ≡ member_entry l.fn.step l.bytes l.count;
  keys_in : l.keys.bytes ≡ l.bytes;
  values_in : l.values.bytes ≡ l.bytes;
}

abbrev pub decreases-loop-key : goal.decreases-loop-key
decreases-loop-key l = length (read_entries l.keys.entries)
