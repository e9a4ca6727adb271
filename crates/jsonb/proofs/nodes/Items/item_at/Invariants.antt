-- The remaining items begin with the one after those passed over.
use Rattle.std.proofs.Common.{◌≡◌, ◌-◌, ◌≤◌, slice_get}
use Rattle.jsonb.specs.Entries.{entries_of}
use Rattle.jsonb.specs.EntryTrees.{AreParts, rest_trees}
use Rattle.jsonb.proofs.nodes.Items.item_at.Given as goal

abbrev pub invariant-loop : goal.invariant-loop
invariant-loop l = record {
  parts : AreParts (entries_of l.entries);
  few : l.counter ≤ l.fn.index;
  same : slice_get (rest_trees l.fn.self) l.fn.index
      ≡ slice_get (rest_trees (entries_of l.entries)) (l.fn.index - l.counter);
  read : slice_get l.fn.self l.fn.index
      ≡ slice_get (entries_of l.entries) (l.fn.index - l.counter);
}
