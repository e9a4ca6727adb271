use Rattle.std.proofs.Common.{ap, refl, ◌∙◌}
use Rattle.jsonb.specs.EntryTrees.{part_tree}
use Rattle.jsonb_functions.specs.EditSource.{edited_along, first_done, made_tree, removed}
use Rattle.jsonb_functions.specs.EditSource.{replaced}
use Rattle.jsonb_functions.proofs.OverlayLaws.{part_tree_means}
use Rattle.jsonb_functions.proofs.edit.changed_item.Goals as goal

pub returns-in-Insert-clause-first : goal.returns-in-Insert-clause-first
returns-in-Insert-clause-first c ts are = record {
  first = made_tree c.in-Insert.made;
  others = ts;
  are = rw c.in-Insert.is refl;
  is = refl;
  left = are;
}

pub returns-in_ok-later-in-Put-clause-first : goal.returns-in_ok-later-in-Put-clause-first
returns-in_ok-later-in-Put-clause-first c ts are =
    let f = c.in_ok-later-in-Put.ensures.first ts are in
    record {
      first = part_tree c.in-Put.value.now;
      others = f.others;
      are = rw c.in-Put.is
          (ap (λ us. first_done (replaced (λ t. part_tree c.in-Put.value.now)) us) f.are);
      is = part_tree_means c.in-Put.value.now;
      left = f.later;
    }

pub returns-in_ok-part-in-Below-clause-first : goal.returns-in_ok-part-in-Below-clause-first
returns-in_ok-part-in-Below-clause-first c ts are =
    let f = c.in_ok-part-in-Below.ensures.first ts are in
    record {
      first = edited_along c.in-Below.plan f.first;
      others = f.others;
      are = rw c.in-Below.is
          (ap (λ us. first_done (replaced (λ t. edited_along c.in-Below.plan t)) us) f.are);
      is = (f.first, (f.is, refl));
      left = f.later;
    }

pub returns-in_ok-part-in-Remove-clause-first : goal.returns-in_ok-part-in-Remove-clause-first
returns-in_ok-part-in-Remove-clause-first c ts are =
    let gone = c.in_ok-later-in-Remove.ensures.first ts are in
    let f = c.in_ok-part-in-Remove.ensures.first gone.others gone.later in
    record {
      first = f.first;
      others = f.others;
      are = rw c.in-Remove.is (ap (λ us. first_done removed us) gone.are ∙ f.are);
      is = f.is;
      left = f.later;
    }

pub returns-in_ok-part-in-Nothing-clause-first : goal.returns-in_ok-part-in-Nothing-clause-first
returns-in_ok-part-in-Nothing-clause-first c ts are =
    let f = c.in_ok-part-in-Nothing.ensures.first ts are in
    record {
      first = f.first;
      others = f.others;
      are = rw c.in-Nothing.is f.are;
      is = f.is;
      left = f.later;
    }
