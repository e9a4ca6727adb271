-- The items that are left come after those in the list.
use Rattle.std.proofs.Common.{◌≡◌, length}
use Rattle.jsonb_value.specs.Tree.{Trees}
use Rattle.jsonb_codec.specs.Contents.{AreChildren}
use Rattle.jsonb_functions.specs.ChosenSource.{listed_trees}
use Rattle.jsonb_functions.specs.Joined.{append_trees}
use Rattle.jsonb_functions.proofs.array_sets.all_items.Given as goal

abbrev pub invariant-loop-first : goal.invariant-loop-first
invariant-loop-first l = record {
  going : (ts : Trees) → AreChildren ts l.items
      → (others : Trees) × (AreChildren others l.left
      × (append_trees (listed_trees l.list.items) others ≡ ts));
}

abbrev pub decreases-loop-first : goal.decreases-loop-first
decreases-loop-first l = length l.left.entries.now
