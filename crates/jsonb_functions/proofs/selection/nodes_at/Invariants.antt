-- After the values that were made come those at the positions that are left.
use Rattle.std.proofs.Common.{◌≡◌, ◌++◌, length, map}
use Rattle.std.specs.Prelude.{Ok}
use Rattle.jsonb.specs.Entry.{entry_there}
use Rattle.jsonb.specs.Node.{node_tree, node_view}
use Rattle.jsonb.specs.StoredEntries.{entry_item}
use Rattle.jsonb_functions.specs.PathPlaces.{tree_there}
use Rattle.jsonb_functions.specs.PlaceWalks.{AreAllParts}
use Rattle.jsonb_functions.proofs.selection.nodes_at.Given as goal

abbrev pub invariant-loop-left : goal.invariant-loop-left
invariant-loop-left l = record {
  made : map node_tree l.nodes.items ++ map (tree_there l.bytes) l.left
      ≡ map (tree_there l.bytes) l.fn.places;
  items : map (λ node. Ok (node_view node)) l.nodes.items
      ++ map (λ place. entry_item (entry_there l.bytes place)) l.left
      ≡ map (λ place. entry_item (entry_there l.bytes place)) l.fn.places;
  parts : AreAllParts l.bytes l.left;
}

abbrev pub decreases-loop-left : goal.decreases-loop-left
decreases-loop-left l = length l.left
