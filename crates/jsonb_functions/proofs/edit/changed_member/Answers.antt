use Rattle.std.proofs.Common.{ap, refl, ◌∙◌}
use Rattle.jsonb.specs.EntryTrees.{part_tree}
use Rattle.jsonb_functions.specs.EditSource.{edited_along, first_pair_done, made_tree, removed}
use Rattle.jsonb_functions.specs.EditSource.{replaced}
use Rattle.jsonb_functions.proofs.OverlayLaws.{part_tree_means}
use Rattle.jsonb_functions.proofs.edit.changed_member.Goals as goal

pub returns-in-Insert-clause-first : goal.returns-in-Insert-clause-first
returns-in-Insert-clause-first c ps are = record {
  first = made_tree c.in-Insert.made;
  others = ps;
  are = rw c.in-Insert.is refl;
  is = refl;
  left = are;
}

pub returns-in_ok-key-in-Put-clause-first : goal.returns-in_ok-key-in-Put-clause-first
returns-in_ok-key-in-Put-clause-first c ps are =
    let f = c.in_ok-key-in-Put.ensures.first ps are in
    record {
      first = part_tree c.in-Put.value.now;
      others = f.others;
      are = rw c.in-Put.is (ap (λ qs. first_pair_done c.args.new_key.now
          (replaced (λ t. part_tree c.in-Put.value.now)) qs) f.are);
      is = part_tree_means c.in-Put.value.now;
      left = f.left;
    }

pub returns-in_ok-key-in-Below-clause-first : goal.returns-in_ok-key-in-Below-clause-first
returns-in_ok-key-in-Below-clause-first c ps are =
    let f = c.in_ok-key-in-Below.ensures.first ps are in
    record {
      first = edited_along c.in-Below.plan f.value;
      others = f.others;
      are = rw c.in-Below.is (ap (λ qs. first_pair_done c.args.new_key.now
          (replaced (λ t. edited_along c.in-Below.plan t)) qs) f.are);
      is = (f.value, (f.is, refl));
      left = f.left;
    }

pub returns-in_ok-key-in-Remove-clause-first : goal.returns-in_ok-key-in-Remove-clause-first
returns-in_ok-key-in-Remove-clause-first c ps are =
    let gone = c.in_ok-later-in-Remove.ensures.first ps are in
    let f = c.in_ok-key-in-Remove.ensures.first gone.others gone.left in
    record {
      first = f.value;
      others = f.others;
      are = rw c.in-Remove.is
          (ap (λ qs. first_pair_done c.args.new_key.now removed qs) gone.are ∙ f.are);
      is = f.is;
      left = f.left;
    }

pub returns-in_ok-key-in-Nothing-clause-first : goal.returns-in_ok-key-in-Nothing-clause-first
returns-in_ok-key-in-Nothing-clause-first c ps are =
    let f = c.in_ok-key-in-Nothing.ensures.first ps are in
    record {
      first = f.value;
      others = f.others;
      are = rw c.in-Nothing.is f.are;
      is = f.is;
      left = f.left;
    }
