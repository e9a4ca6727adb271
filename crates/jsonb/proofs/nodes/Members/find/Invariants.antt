-- The name is found among the members that are left as it is among all.
use Rattle.std.proofs.Common.{◌≡◌, ℕ, List, length, nat_eq}
use Rattle.std.specs.Cmp.Lexicographic.{pointwise}
use Rattle.jsonb.specs.Entries.{entries_of}
use Rattle.jsonb.specs.EntryTrees.{AreMemberEntries}
use Rattle.jsonb.specs.Entry.{Code}
use Rattle.jsonb.specs.StoredEntries.{AreEntriesOf, find_entry}
use Rattle.jsonb.proofs.nodes.Members.find.Given as goal

abbrev pub invariant-loop-key : goal.invariant-loop-key
invariant-loop-key l = record {
  readable : AreMemberEntries (entries_of l.keys, entries_of l.values);
  same : (members : List (List ℕ × Code)) → AreEntriesOf members l.fn.self
      → (later : List (List ℕ × Code))
      × (AreEntriesOf later (entries_of l.keys, entries_of l.values)
      × (find_entry (pointwise nat_eq l.name) (length l.name) members
      ≡ find_entry (pointwise nat_eq l.name) (length l.name) later));
}

abbrev pub decreases-loop-key : goal.decreases-loop-key
decreases-loop-key l = length (entries_of l.keys)
