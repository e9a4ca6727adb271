use Rattle.std.proofs.Common.{arith, refl}
use Rattle.jsonb_value.specs.Tree.{no_pairs, no_trees}
use Rattle.jsonb.specs.EntryTrees.{part_tree}
use Rattle.jsonb_functions.specs.declared.overlay.Laid.TheVariants.{Changed}
use Rattle.jsonb_functions.specs.EditSource.{edit_laws, edit_meaning}
use Rattle.jsonb_functions.proofs.EditLaws.{later_steps, made_array}
use Rattle.jsonb_functions.proofs.EditLaws.{made_object, path_split, wrapped_none}
use Rattle.jsonb_functions.proofs.OverlayLaws.{array_is, object_is, part_tree_means}
use Rattle.jsonb_functions.proofs.edit.made_level.Goals as goal

pub returns-in_default-clause-is : goal.returns-in_default-clause-is
returns-in_default-clause-is c =
    let value = c.args.made.value.now in
    rw (wrapped_none c.args.made.path.now (part_tree value) c.in_default.len_below)
    (c.kept_level.ensures.is (part_tree value) (part_tree_means value))

pub returns-in-Key-clause-is : goal.returns-in-Key-clause-is
returns-in-Key-clause-is c =
    let path = c.args.made.path.now in
    object_is edit_meaning edit_laws (Changed (record {
      members = record {
        members = c.members.result;
        before = 0;
        key = c.in-Key.key;
        what = c.insert_if-what.result;
      };
      count = 1;
    })) _ _ (made_object c.in-Key.key path (later_steps path) (part_tree c.args.made.value.now)
    (path_split path _ _ c.in-len1-up.len_at_least c.in-Key.is)) (
      (
        no_pairs,
        (
          (
            c.members.ensures.members no_pairs c.no_object.ensures.are,
            rw c.insert_if-what.ensures.what (omega arith),
          ),
          rw c.insert_if-what.ensures.what refl,
        ),
      ),
      refl,
    )

pub returns-in_default-step-clause-is : goal.returns-in_default-step-clause-is
returns-in_default-step-clause-is c =
    let path = c.args.made.path.now in
    array_is edit_meaning edit_laws (Changed (record {
      items = c.no_items.result;
      before = 0;
      what = c.insert_if-what.result;
    })) _ _ (made_array _ path (later_steps path) (part_tree c.args.made.value.now)
    (path_split path _ _ c.in-len1-up.len_at_least refl) c.in_default-step.not-Key) (
      no_trees,
      (
        (c.no_items.ensures.are, rw c.insert_if-what.ensures.what (omega arith)),
        rw c.insert_if-what.ensures.what refl,
      ),
    )
