use Rattle.std.proofs.Common.{refl, ap, ◌∙◌}
use Rattle.jsonb.specs.EntryTrees.{part_tree}
use Rattle.jsonb_functions.specs.ChosenSource.{listed_trees}
use Rattle.jsonb_functions.proofs.OverlayLaws.{part_tree_means}
use Rattle.jsonb_functions.proofs.chosen.ChosenOverlay.next_item.Goals as goal

pub returns-clause-first : goal.returns-clause-first
returns-clause-first c ts h =
    let part = c.in_ok-part.part.now in
    record {
      first = part_tree part;
      others = listed_trees c.in_ok-part.later.now;
      are = h ∙ ap listed_trees c.in_ok-part.ensures.cases.0;
      is = part_tree_means part;
      left = refl;
    }
