use Rattle.std.proofs.Common.{rules, ◌∙◌, Some, ap, arith}
use Rattle.std.specs.Prelude.{string_cmp}
use Rattle.std.specs.BTreeMap.{IsFromIterResult}
use Rattle.jsonb_value.specs.Tree.{count}
use Rattle.jsonb_rows.specs.Each.{child_edited, operation_of}
use Rattle.jsonb_rows.specs.Reach.{leads_to_item, leads_to_member}
use Rattle.jsonb_rows.proofs.EachLaws.{array_child, items_end, items_more, later_steps}
use Rattle.jsonb_rows.proofs.EachLaws.{members_end, members_more, object_child, path_split}
use Rattle.jsonb_rows.proofs.each.+each.Goals as goal

pub edited_items-loop-child-preserved : goal.edited_items-loop-child-preserved
edited_items-loop-child-preserved t c =
    let l = c.loop-child in let k = c.in-Some.ensures in
    let f = child_edited c.args.rest.now (operation_of c.args.edit) in record {
      left = λ ts are.
          let (us, (whole, left)) = l.invariant.left ts are in
          let first = k.first us left in (
            first.others,
            (
              items_more (leads_to_item c.args.step.now (count ts)) f _ _ c.in_ok-edited.edited
                  l.index whole
                  first.are (search rules) c.in_ok-push_child.ensures.ok,
              first.later,
            ),
          );
      place = omega (arith, k.entries_len, l.invariant.place);
    }

pub edited_items-returns-clause-ok : goal.edited_items-returns-clause-ok
edited_items-returns-clause-ok t c ts are =
    let (us, (whole, left)) = c.loop-child.invariant.left ts are in
    items_end (leads_to_item c.args.step.now (count ts))
    (child_edited c.args.rest.now (operation_of c.args.edit)) _ c.loop-child.index whole
    (c.in_default.ensures.none us left)

pub edited_members-loop-member-preserved : goal.edited_members-loop-member-preserved
edited_members-loop-member-preserved t c ps are =
    let (us, (whole, left)) = c.loop-member.invariant ps are in
    let first = c.in-Some.ensures.first us left in (
      first.others,
      (
        members_more (leads_to_member c.args.step.now)
            (child_edited c.args.rest.now (operation_of c.args.edit)) _ _ c.in_ok-child.child
            whole first.are (search rules) c.in_ok-push_member.ensures.ok,
        first.left,
      ),
    )

pub edited_members-returns-clause-ok : goal.edited_members-returns-clause-ok
edited_members-returns-clause-ok t c ps are =
    let (us, (whole, left)) = c.loop-member.invariant ps are in
    let es = c.loop-member.pairs.items in
    let made : IsFromIterResult string_cmp es c.in_ok-collect.field-0 = search rules in
    members_end (leads_to_member c.args.step.now)
    (child_edited c.args.rest.now (operation_of c.args.edit)) es c.in_ok-collect.field-0 ps us
    are.0 whole (c.in_default.ensures.none us left) made

pub edited_child-returns-in_ok-edited-in-Array-clause-ok :
    goal.edited_child-returns-in_ok-edited-in-Array-clause-ok
edited_child-returns-in_ok-edited-in-Array-clause-ok k c t h =
    let (ts, (is, are)) = c.in-Array.ensures.contents t h in
    let path = c.args.path.now in
    ap Some c.array_of.ensures ∙ array_child path c.step-item.result (later_steps path)
    (path_split path c.step-item.result c.in-len1-up.len_at_least (cc (c.step-item.is)))
    (operation_of c.args.edit) t ts c.in_ok-edited-in-Array.edited.items is
    (c.in_ok-edited-in-Array.ensures.ok ts are)

pub edited_child-returns-in_ok-add_missing-in-Object-clause-ok :
    goal.edited_child-returns-in_ok-add_missing-in-Object-clause-ok
edited_child-returns-in_ok-add_missing-in-Object-clause-ok k c t h =
    let (ps, (is, whole)) = c.in-Object.ensures.contents t h in
    let path = c.args.path.now in
    ap Some c.object_of.ensures ∙ object_child path c.step-item.result (later_steps path)
    (path_split path c.step-item.result c.in-len1-up.len_at_least (cc (c.step-item.is)))
    (operation_of c.args.edit) t ps c.in_ok-edited-in-Object.edited.entries
    c.add_missing.new.members.entries is
    (c.in_ok-edited-in-Object.ensures.ok ps (c.members.ensures.members ps whole))
    c.in_ok-add_missing-in-Object.ensures.ok
