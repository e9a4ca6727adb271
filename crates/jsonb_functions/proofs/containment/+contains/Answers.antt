use Rattle.std.proofs.Common.{arith, ap, sym, ◌∙◌, refl, rules}
use Rattle.std.specs.Prelude.{is_some}
use Rattle.jsonb.specs.Document.{document_tree}
use Rattle.jsonb.specs.EntryTrees.{rest_trees, rest_pairs}
use Rattle.jsonb.specs.Node.{node_tree, pairs_of, object_of}
use Rattle.jsonb_functions.specs.Contains.{contained, items_or_none, some_tree}
use Rattle.jsonb_functions.specs.ContainSteps.{contained_work}
use Rattle.jsonb_functions.specs.Weight.{weight}
use Rattle.jsonb_comparable.proofs.WalkLaws.{array_items, object_members}
use Rattle.jsonb_functions.proofs.WalkLaws.{arrays_contained}
use Rattle.jsonb_functions.proofs.WalkLaws.{members_within, first_item, some_first}
use Rattle.jsonb_functions.proofs.WalkLaws.{some_later, some_none, all_none, no_item}
use Rattle.jsonb_functions.proofs.WalkLaws.{scalars_equal}
use Rattle.jsonb_functions.proofs.WalkLaws.{member_lacking, member_differs, members_none}
use Rattle.jsonb_functions.proofs.ContainLaws.{all_done, arrays_work, found_after}
use Rattle.jsonb_functions.proofs.ContainLaws.{no_value_left, remains_all, search_begun}
use Rattle.jsonb_functions.proofs.ContainLaws.{sort_lacks, value_left}
use Rattle.jsonb_functions.specs.ContainSteps.{Work, are_many, find_work, members_work}
use Rattle.jsonb_value.specs.Tree.{Tree, count}
use Rattle.jsonb_value.specs.Value.{trees_of}
use Rattle.std.specs.Prelude.{not, option_copied, option_map}
use Rattle.jsonb_functions.proofs.ContainLaws.{found_same, items_first, last_done, member_left}
use Rattle.jsonb_functions.proofs.ContainLaws.{items_none, members_work_none, nothing_left}
use Rattle.jsonb_functions.proofs.ContainLaws.{objects_work, part_done, part_lacks, passing_within}
use Rattle.jsonb_functions.proofs.ContainLaws.{plain_work, too_few, until_first, until_none}
use Rattle.jsonb_functions.proofs.KeyOrder.{document_ascends, first_member, ascend_on}
use Rattle.jsonb_functions.proofs.ScalarLaws.{items_here}
use Rattle.jsonb_functions.proofs.WeightLaws.{items_weights, members_weights}
use Rattle.jsonb_functions.proofs.containment.+contains.Goals as goal

pub contains_documents-contains_items-requires : goal.contains_documents-contains_items-requires
contains_documents-contains_items-requires t c =
    let whole = array_items (document_tree c.args.right) (rest_trees c.in-Some-Some.wanted)
    c.in-Some-Some.ensures' in
    (omega (arith, ap weight whole), tt)

pub contains_documents-returns-in-Some-Some : goal.contains_documents-returns-in-Some-Some
contains_documents-returns-in-Some-Some t c =
    let left = array_items (document_tree c.args.left) (rest_trees c.in-Some-Some.field-0-0)
    c.in-Some-Some.ensures in
    let right = array_items (document_tree c.args.right) (rest_trees c.in-Some-Some.wanted)
    c.in-Some-Some.ensures' in
    found_same _ _ _ _ _ _ _ refl (arrays_work _ _ _ _ left right)
    (found_after _ _ _ 1 _ _ _ _ (sym (arrays_contained _ _ _ _ left right)) c.in_ok-take.ensures
    c.contains_items.ensures)

pub contains_items-has_value-requires : goal.contains_items-has_value-requires
contains_items-has_value-requires t c =
    let whole = array_items (document_tree c.args.array) (rest_trees c.in-Some-items.items)
    c.in-Some-items.ensures in
    let here = items_here (document_tree c.args.array) (rest_trees c.in-Some-items.items) whole in (
      omega (
        arith,
        ap weight whole,
        items_weights (rest_trees c.loop-item.wanted) (node_tree c.in-Some.item)
            (rest_trees c.next_item.new.items) c.in-Some.ensures.steps,
        c.loop-item.invariant.less,
      ),
      (
        rw c.as_ref.ensures.value (rw here at c.loop-item.invariant.scalars),
        c.in-Some.ensures.container,
      ),
    )

pub contains_items-loop-item-init : goal.contains_items-loop-item-init
contains_items-loop-item-init t c = record {
  decides = refl;
  work = search_begun (rest_trees c.args.wanted) (items_or_none (document_tree c.args.array))
      c.len.result (is_some c.in_ok-scalars.scalars) c.args.steps.now c.scalars_if_many.new.steps
      c.len.ensures c.in_ok-scalars.ensures.many c.in_ok-scalars.ensures.cost;
  less = omega arith;
  scalars = c.in_ok-scalars.ensures.scalars;
  many = c.in_ok-scalars.ensures.many
      ∙ ap (λ n. are_many n (count (items_or_none (document_tree c.args.array)))) c.len.ensures;
}

pub contains_items-returns-in_err-scalars : goal.contains_items-returns-in_err-scalars
contains_items-returns-in_err-scalars t c =
    sort_lacks _ c.in_err-scalars.field-0.0 _ (rest_trees c.args.wanted)
    (items_or_none (document_tree c.args.array)) c.len.result c.args.steps.now _ (search rules)
    c.len.ensures c.in_err-scalars.ensures.cost

pub contains_items-returns-in_err-is_there : goal.contains_items-returns-in_err-is_there
contains_items-returns-in_err-is_there t c =
    let whole = array_items (document_tree c.args.array) (rest_trees c.in-Some-items.items)
    c.in-Some-items.ensures in
    let here = items_here (document_tree c.args.array) (rest_trees c.in-Some-items.items) whole in
    part_lacks _ c.in_err-is_there.field-0.0 _ _ _ _ _ _ _ _ _ (search rules)
    (items_first (is_some c.loop-item.scalars-1) (rest_trees c.loop-item.wanted)
    (rest_trees c.next_item.new.items) (node_tree c.in-Some.item)
    (items_or_none (document_tree c.args.array)) c.in-Some.ensures.steps)
    c.loop-item.invariant.work
    (rw (← here, c.as_ref.ensures.value) at c.in_err-is_there.ensures)

pub contains_items-returns-then-not-is_there : goal.contains_items-returns-then-not-is_there
contains_items-returns-then-not-is_there t c =
    let whole = array_items (document_tree c.args.array) (rest_trees c.in-Some-items.items)
    c.in-Some-items.ensures in
    let step = first_item (rest_trees c.loop-item.wanted) (rest_trees c.next_item.new.items)
    (node_tree c.in-Some.item) (document_tree c.args.array) (rest_trees c.in-Some-items.items)
    c.in-Some.ensures.steps whole in
    let here = items_here (document_tree c.args.array) (rest_trees c.in-Some-items.items) whole in
    let found = c.in_ok-is_there.ensures in (
      rw (c.loop-item.invariant.decides, step, ← found.0, c.if-not-is_there.true) refl,
      last_done _ _ _ _ _ _ _ _ (items_first (is_some c.loop-item.scalars-1)
          (rest_trees c.loop-item.wanted) (rest_trees c.next_item.new.items)
          (node_tree c.in-Some.item) (items_or_none (document_tree c.args.array))
          c.in-Some.ensures.steps)
          (ap (λ ts. some_tree (λ x. contained (node_tree c.in-Some.item) x) ts) here
          ∙ (sym found.0 ∙ c.if-not-is_there.true))
          (rw (← here, c.as_ref.ensures.value) at found.1) c.loop-item.invariant.work,
    )

pub contains_items-returns-in_default-items : goal.contains_items-returns-in_default-items
contains_items-returns-in_default-items t c = (
  no_item _ _ _ _ _ c.in_default-items.ensures c.in-Some.ensures.steps
      c.loop-item.invariant.decides,
  omega (
    arith,
    nothing_left (document_tree c.args.array) (rest_trees c.loop-item.wanted) _ _
        c.in_default-items.ensures c.loop-item.invariant.many,
    c.loop-item.invariant.work.done,
  ),
)

pub contains_items-returns : goal.contains_items-returns
contains_items-returns t c = (
  all_none _ _ _ c.loop-item.invariant.decides c.in_default.ensures.steps.0,
  all_done _ _ _ _ (items_none (is_some c.loop-item.scalars-1) (rest_trees c.loop-item.wanted)
      (items_or_none (document_tree c.args.array)) c.in_default.ensures.steps.0)
      c.loop-item.invariant.work,
)

pub contains_items-loop-item-preserved : goal.contains_items-loop-item-preserved
contains_items-loop-item-preserved t c =
    let whole = array_items (document_tree c.args.array) (rest_trees c.in-Some-items.items)
    c.in-Some-items.ensures in
    let step = first_item (rest_trees c.loop-item.wanted) (rest_trees c.next_item.new.items)
    (node_tree c.in-Some.item) (document_tree c.args.array) (rest_trees c.in-Some-items.items)
    c.in-Some.ensures.steps whole in
    let here = items_here (document_tree c.args.array) (rest_trees c.in-Some-items.items) whole in
    let found = c.in_ok-is_there.ensures in
    record {
      decides = rw (c.loop-item.invariant.decides, step, ← found.0, c.if-not-is_there.false) refl;
      work = part_done _ _ _ _ _ _ _ _ (items_first (is_some c.loop-item.scalars-1)
          (rest_trees c.loop-item.wanted) (rest_trees c.next_item.new.items)
          (node_tree c.in-Some.item) (items_or_none (document_tree c.args.array))
          c.in-Some.ensures.steps)
          (ap (λ ts. some_tree (λ x. contained (node_tree c.in-Some.item) x) ts) here
          ∙ (sym found.0 ∙ c.if-not-is_there.false))
          (rw (← here, c.as_ref.ensures.value) at found.1) c.loop-item.invariant.work;
      less = omega (
        arith,
        items_weights (rest_trees c.loop-item.wanted) (node_tree c.in-Some.item)
            (rest_trees c.next_item.new.items) c.in-Some.ensures.steps,
        c.loop-item.invariant.less,
      );
      scalars = c.loop-item.invariant.scalars;
      many = c.loop-item.invariant.many;
    }

pub has_value-returns-in-Some-default : goal.has_value-returns-in-Some-default
has_value-returns-in-Some-default t c =
    let work : Tree → Work = λ u. contained_work (node_tree c.args.wanted) u in
    found_same c.has.result _ _ _ _ _ _ refl
    (ap (λ b. find_work b (node_tree c.args.wanted) work (trees_of (rest_trees c.args.items)))
    (sym (ap (λ o. is_some (option_copied o)) c.in-Some-default.is-0)))
    (c.has.ensures (trees_of (rest_trees c.args.items)) work
    (rw c.in-Some-default.is-0 at c.requires.scalars))

pub has_item-returns-in_err-is_contained : goal.has_item-returns-in_err-is_contained
has_item-returns-in_err-is_contained t c =
    part_lacks _ c.in_err-is_contained.field-0.0 _ _ _ _ _ _ _ _ _ (search rules)
    (until_first (λ x. contained (node_tree c.args.wanted) x)
    (λ x. contained_work (node_tree c.args.wanted) x) (rest_trees c.loop-item.items)
    (rest_trees c.next_item.new.items) (node_tree c.in-Some.item) c.in-Some.ensures.steps)
    c.loop-item.invariant.work c.in_err-is_contained.ensures

pub has_item-returns-then-is_contained : goal.has_item-returns-then-is_contained
has_item-returns-then-is_contained t c =
    let found = c.in_ok-is_contained.ensures in (
      some_first (λ x. contained (node_tree c.args.wanted) x) _ _ _ _ _
          c.loop-item.invariant.decides c.in-Some.ensures.steps found.0 c.if-is_contained.true,
      last_done _ _ _ _ _ _ _ _ (until_first (λ x. contained (node_tree c.args.wanted) x)
          (λ x. contained_work (node_tree c.args.wanted) x) (rest_trees c.loop-item.items)
          (rest_trees c.next_item.new.items) (node_tree c.in-Some.item) c.in-Some.ensures.steps)
          (ap not (sym found.0 ∙ c.if-is_contained.true)) found.1 c.loop-item.invariant.work,
    )

pub has_item-returns : goal.has_item-returns
has_item-returns t c = (
  some_none (λ x. contained (node_tree c.args.wanted) x) _ _ c.loop-item.invariant.decides
      c.in_default.ensures.steps.0,
  all_done _ _ _ _ (until_none (λ x. contained (node_tree c.args.wanted) x)
      (λ x. contained_work (node_tree c.args.wanted) x) (rest_trees c.loop-item.items)
      c.in_default.ensures.steps.0) c.loop-item.invariant.work,
)

pub has_item-loop-item-preserved : goal.has_item-loop-item-preserved
has_item-loop-item-preserved t c =
    let found = c.in_ok-is_contained.ensures in
    record {
      decides = some_later (λ x. contained (node_tree c.args.wanted) x) _ _ _ _ _
          c.loop-item.invariant.decides c.in-Some.ensures.steps found.0 c.if-is_contained.false;
      work = part_done _ _ _ _ _ _ _ _ (until_first (λ x. contained (node_tree c.args.wanted) x)
          (λ x. contained_work (node_tree c.args.wanted) x) (rest_trees c.loop-item.items)
          (rest_trees c.next_item.new.items) (node_tree c.in-Some.item) c.in-Some.ensures.steps)
          (ap not (sym found.0 ∙ c.if-is_contained.false)) found.1 c.loop-item.invariant.work;
      less = omega (
        arith,
        items_weights (rest_trees c.loop-item.items) (node_tree c.in-Some.item)
            (rest_trees c.next_item.new.items) c.in-Some.ensures.steps,
        c.loop-item.invariant.less,
      );
    }

pub contains_documents-contains_members-requires :
    goal.contains_documents-contains_members-requires
contains_documents-contains_members-requires t c =
    let left = object_members (document_tree c.args.left)
    (rest_pairs c.in-Some-Some-2.members) c.in-Some-Some-2.ensures in
    let right = object_members (document_tree c.args.right)
    (rest_pairs c.in-Some-Some-2.wanted) c.in-Some-Some-2.ensures' in (
      omega (arith, ap weight left, ap weight right),
      (
        document_ascends c.args.left (pairs_of (rest_pairs c.in-Some-Some-2.members)) left,
        document_ascends c.args.right (pairs_of (rest_pairs c.in-Some-Some-2.wanted)) right,
      ),
    )

pub contains_documents-returns-in-Some-Some-2 : goal.contains_documents-returns-in-Some-Some-2
contains_documents-returns-in-Some-Some-2 t c =
    let left = object_members (document_tree c.args.left)
    (rest_pairs c.in-Some-Some-2.members) c.in-Some-Some-2.ensures in
    let right = object_members (document_tree c.args.right)
    (rest_pairs c.in-Some-Some-2.wanted) c.in-Some-Some-2.ensures' in
    found_same _ _ _ _ _ _ _ refl (objects_work _ _ _ _ left right)
    (found_after _ _ _ 1 _ _ _ _ (members_within _ _ _ _ left right) c.in_ok-take.ensures
    c.contains_members.ensures)

pub contains_members-loop-name-init : goal.contains_members-loop-name-init
contains_members-loop-name-init t c = record {
  decides = refl;
  work = remains_all _ _;
  members = c.requires.members;
  wanted = c.requires.wanted;
  less = omega arith;
  fewer = omega arith;
}

pub contains_members-returns-in_err-found : goal.contains_members-returns-in_err-found
contains_members-returns-in_err-found t c =
    too_few _ _ _ _ c.args.steps.now _ (search rules) c.in_err-found.ensures.err.0
    (omega (
      arith,
      c.in_err-found.ensures.err.1,
      passing_within (rest_pairs c.loop-name.wanted) (rest_pairs c.next_member.new.members)
          c.in-Some.name.now (node_tree c.in-Some.value)
          (pairs_of (rest_pairs c.loop-name.members)) c.in-Some.ensures.steps,
      c.loop-name.invariant.work.done,
    ))

pub contains_members-returns-in_default-2 : goal.contains_members-returns-in_default-2
contains_members-returns-in_default-2 t c =
    let left = member_left (rest_pairs c.loop-name.wanted) (rest_pairs c.next_member.new.members)
    c.in-Some.name.now (node_tree c.in-Some.value) (pairs_of (rest_pairs c.loop-name.members))
    (pairs_of (rest_pairs c.value_at.new.members)) (option_map node_tree c.in_ok-found.field-0)
    _ _ _ _ c.in-Some.ensures.steps c.in_ok-found.ensures.first c.in_ok-found.ensures.cost
    c.loop-name.invariant.work in (
      member_lacking _ _ _ _ _ _ c.loop-name.invariant.decides c.in-Some.ensures.steps
          (rw c.in_default-2.is at c.in_ok-found.ensures.value),
      all_done _ _ _ _ (no_value_left (λ x. contained (node_tree c.in-Some.value) x)
          (λ x. contained_work (node_tree c.in-Some.value) x)
          (λ ps. members_work (pairs_of (rest_pairs c.next_member.new.members)) ps)
          (pairs_of (rest_pairs c.value_at.new.members)) (option_map node_tree c.in_ok-found.field-0)
          (ap (option_map node_tree) c.in_default-2.is)) left,
    )

pub contains_members-returns-in_err-is_contained : goal.contains_members-returns-in_err-is_contained
contains_members-returns-in_err-is_contained t c =
    let left = member_left (rest_pairs c.loop-name.wanted) (rest_pairs c.next_member.new.members)
    c.in-Some.name.now (node_tree c.in-Some.value) (pairs_of (rest_pairs c.loop-name.members))
    (pairs_of (rest_pairs c.value_at.new.members)) (option_map node_tree c.in_ok-found.field-0)
    _ _ _ _ c.in-Some.ensures.steps c.in_ok-found.ensures.first c.in_ok-found.ensures.cost
    c.loop-name.invariant.work in
    part_lacks _ c.in_err-is_contained.field-0.0 _ _ _ _ _ _ _ _ _ (search rules)
    (value_left (λ x. contained (node_tree c.in-Some.value) x)
    (λ x. contained_work (node_tree c.in-Some.value) x)
    (λ ps. members_work (pairs_of (rest_pairs c.next_member.new.members)) ps)
    (pairs_of (rest_pairs c.value_at.new.members)) (option_map node_tree c.in_ok-found.field-0)
    (node_tree c.in-Some-2.found) (ap (option_map node_tree) c.in-Some-2.is)) left
    c.in_err-is_contained.ensures

pub contains_members-returns-then-not-is_contained :
    goal.contains_members-returns-then-not-is_contained
contains_members-returns-then-not-is_contained t c =
    let counted = c.in_ok-is_contained.ensures in
    let left = member_left (rest_pairs c.loop-name.wanted) (rest_pairs c.next_member.new.members)
    c.in-Some.name.now (node_tree c.in-Some.value) (pairs_of (rest_pairs c.loop-name.members))
    (pairs_of (rest_pairs c.value_at.new.members)) (option_map node_tree c.in_ok-found.field-0)
    _ _ _ _ c.in-Some.ensures.steps c.in_ok-found.ensures.first c.in_ok-found.ensures.cost
    c.loop-name.invariant.work in (
      member_differs _ _ _ _ _ _ _ _ c.loop-name.invariant.decides c.in-Some.ensures.steps
          (rw c.in-Some-2.is at c.in_ok-found.ensures.value) counted.0 c.if-not-is_contained.true,
      last_done _ _ _ _ _ _ _ _ (value_left (λ x. contained (node_tree c.in-Some.value) x)
          (λ x. contained_work (node_tree c.in-Some.value) x)
          (λ ps. members_work (pairs_of (rest_pairs c.next_member.new.members)) ps)
          (pairs_of (rest_pairs c.value_at.new.members)) (option_map node_tree c.in_ok-found.field-0)
          (node_tree c.in-Some-2.found) (ap (option_map node_tree) c.in-Some-2.is))
          (sym counted.0 ∙ c.if-not-is_contained.true) counted.1 left,
    )

pub contains_members-returns : goal.contains_members-returns
contains_members-returns t c = (
  members_none _ _ _ c.loop-name.invariant.decides c.in_default.ensures.steps.0,
  all_done _ _ _ _ (members_work_none _ _ c.in_default.ensures.steps.0)
      c.loop-name.invariant.work,
)

pub contains_members-loop-name-preserved : goal.contains_members-loop-name-preserved
contains_members-loop-name-preserved t c =
    let wanted = rest_pairs c.loop-name.wanted in
    let others = rest_pairs c.next_member.new.members in
    let name = c.in-Some.name.now in
    let first = node_tree c.in-Some.value in
    let found = node_tree c.in-Some-2.found in
    let lighter = rw c.in-Some-2.is at c.in_ok-found.ensures.weight in
    let counted = c.in_ok-is_contained.ensures in
    let left = member_left (rest_pairs c.loop-name.wanted) (rest_pairs c.next_member.new.members)
    c.in-Some.name.now (node_tree c.in-Some.value) (pairs_of (rest_pairs c.loop-name.members))
    (pairs_of (rest_pairs c.value_at.new.members)) (option_map node_tree c.in_ok-found.field-0)
    _ _ _ _ c.in-Some.ensures.steps c.in_ok-found.ensures.first c.in_ok-found.ensures.cost
    c.loop-name.invariant.work in
    record {
      decides = c.loop-name.invariant.decides
          ∙ first_member wanted others name first (object_of (rest_pairs c.loop-name.members))
          (object_of (rest_pairs c.value_at.new.members)) found
          c.in-Some.ensures.steps (rw c.in-Some-2.is at c.in_ok-found.ensures.value)
          (sym (counted.0) ∙ c.if-not-is_contained.false) c.loop-name.invariant.wanted
          (rw c.in-Some-2.is at c.in_ok-found.ensures.later);
      work = part_done _ _ _ _ _ _ _ _ (value_left (λ x. contained (node_tree c.in-Some.value) x)
          (λ x. contained_work (node_tree c.in-Some.value) x)
          (λ ps. members_work (pairs_of (rest_pairs c.next_member.new.members)) ps)
          (pairs_of (rest_pairs c.value_at.new.members)) (option_map node_tree c.in_ok-found.field-0)
          (node_tree c.in-Some-2.found) (ap (option_map node_tree) c.in-Some-2.is))
          (sym counted.0 ∙ c.if-not-is_contained.false) counted.1 left;
      members = rw c.in-Some-2.is at c.in_ok-found.ensures.ascend;
      wanted = ascend_on wanted others name first c.in-Some.ensures.steps
          c.loop-name.invariant.wanted;
      less = omega (
        arith,
        members_weights wanted name first others c.in-Some.ensures.steps,
        c.loop-name.invariant.less,
      );
      fewer = omega (arith, lighter, c.loop-name.invariant.fewer);
    }

pub contains_node-returns-in_default : goal.contains_node-returns-in_default
contains_node-returns-in_default t c =
    found_same _ _ _ _ _ _ _ (scalars_equal c.args.left c.args.right (search rules))
    (plain_work c.args.left c.args.right c.requires.left c.requires.right (search rules))
    c.are_equal.ensures
