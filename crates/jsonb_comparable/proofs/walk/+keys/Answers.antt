use Rattle.std.proofs.Common.{arith, ◌≡◌, ◌++◌, ◌∷◌, [], ap, refl, sym, ◌∙◌}
use Rattle.std.specs.Prelude.{true, false}
use Rattle.jsonb_value.specs.Value.{trees_of}
use Rattle.jsonb_codec.specs.Depth.{size}
use Rattle.jsonb.specs.Document.{document_tree}
use Rattle.jsonb.specs.EntryTrees.{rest_trees, rest_pairs}
use Rattle.jsonb.specs.Node.{node_tree, pairs_of}
use Rattle.jsonb_comparable.specs.Escaped.{escaped}
use Rattle.jsonb_comparable.specs.TreeKey.{tree_key, trees_key, pairs_key}
use Rattle.jsonb_comparable.proofs.Sinks.{first_room, second_room, both_parts}
use Rattle.jsonb_comparable.proofs.Sinks.{going_room, going_on, going_same}
use Rattle.jsonb_comparable.proofs.WalkLaws.{array_items, object_members, key_array, key_object}
use Rattle.jsonb_comparable.proofs.WalkLaws.{items_key_first, items_key_none, items_fewer}
use Rattle.jsonb_comparable.proofs.WalkLaws.{items_sizes, members_sizes}
use Rattle.jsonb_comparable.proofs.WalkLaws.{members_key_first, members_key_none, members_fewer}
use Rattle.jsonb_comparable.proofs.walk.+keys.Goals as goal

pub append_container-append-requires : goal.append_container-append-requires
append_container-append-requires g t c =
    let tree = document_tree c.args.document in
    let ts = rest_trees c.in-Some.items in
    let whole = array_items tree ts c.in-Some.ensures in
    first_room g.S.Sink.laws c.args.sink.now (192 ∷ []) (trees_key (trees_of ts))
    (rw (key_array tree ts whole) at c.requires.room)

pub append_container-append_items-requires : goal.append_container-append_items-requires
append_container-append_items-requires g t c κs within =
    let tree = document_tree c.args.document in
    let ts = rest_trees c.in-Some.items in
    let whole = array_items tree ts c.in-Some.ensures in (
      omega (arith, ap size whole),
      (
        within,
        second_room g.S.Sink.laws c.args.sink.now c.append.new.self (192 ∷ [])
            (trees_key (trees_of ts)) (rw (key_array tree ts whole) at c.requires.room)
            c.append.ensures,
      ),
    )

pub append_container-returns-in-Some : goal.append_container-returns-in-Some
append_container-returns-in-Some g t c =
    let tree = document_tree c.args.document in
    let ts = rest_trees c.in-Some.items in
    let whole = array_items tree ts c.in-Some.ensures in
    rw (key_array tree ts whole)
    (both_parts g.S.Sink.laws c.args.sink.now c.append.new.self c.append_items.new.sink
    (192 ∷ []) (trees_key (trees_of ts)) c.append.ensures c.append_items.ensures)

pub append_container-append-requires-in-Some-members :
    goal.append_container-append-requires-in-Some-members
append_container-append-requires-in-Some-members g t c =
    let tree = document_tree c.args.document in
    let ps = rest_pairs c.in-Some-members.members in
    let whole = object_members tree ps c.in-Some-members.ensures in
    first_room g.S.Sink.laws c.args.sink.now (176 ∷ []) (pairs_key (pairs_of ps))
    (rw (key_object tree ps whole) at c.requires.room)

pub append_container-append_members-requires : goal.append_container-append_members-requires
append_container-append_members-requires g t c κs within =
    let tree = document_tree c.args.document in
    let ps = rest_pairs c.in-Some-members.members in
    let whole = object_members tree ps c.in-Some-members.ensures in (
      omega (arith, ap size whole),
      (
        within,
        second_room g.S.Sink.laws c.args.sink.now c.append-in-Some-members.new.self (176 ∷ [])
            (pairs_key (pairs_of ps)) (rw (key_object tree ps whole) at c.requires.room)
            c.append-in-Some-members.ensures,
      ),
    )

pub append_container-returns : goal.append_container-returns
append_container-returns g t c =
    let tree = document_tree c.args.document in
    let ps = rest_pairs c.in-Some-members.members in
    let whole = object_members tree ps c.in-Some-members.ensures in
    rw (key_object tree ps whole)
    (both_parts g.S.Sink.laws c.args.sink.now c.append-in-Some-members.new.self
    c.append_members.new.sink (176 ∷ []) (pairs_key (pairs_of ps))
    c.append-in-Some-members.ensures c.append_members.ensures)

pub append_items-append_node-requires : goal.append_items-append_node-requires
append_items-append_node-requires g t c κs within =
    let first = node_tree c.in-Some.item in
    let left = rest_trees c.loop-item.items in
    let others = rest_trees c.next_item.new.items in
    let split = c.in-Some.ensures.steps in (
      omega (arith, items_sizes left first others split, c.loop-item.invariant.less),
      (
        within,
        (
          c.in-Some.ensures.container,
          going_room g.S.Sink.laws c.loop-item.invariant.going (tree_key first)
              (trees_key (trees_of others)) (items_key_first left first others split),
        ),
      ),
    )

pub append_items-loop-item-preserved : goal.append_items-loop-item-preserved
append_items-loop-item-preserved g t c =
    let first = node_tree c.in-Some.item in
    let left = rest_trees c.loop-item.items in
    let others = rest_trees c.next_item.new.items in
    record {
      going = going_on g.S.Sink.laws c.loop-item.invariant.going (tree_key first)
          (trees_key (trees_of others)) (items_key_first left first others c.in-Some.ensures.steps)
          c.append_node.new.sink c.append_node.ensures;
      less = omega (
        arith,
        items_fewer left first others c.in-Some.ensures.steps,
        c.loop-item.invariant.less,
      );
    }

pub append_items-append-requires : goal.append_items-append-requires
append_items-append-requires g t c =
    let left = rest_trees c.loop-item.items in
    (going_same c.loop-item.invariant.going (0 ∷ [])
    (items_key_none left c.in_default.ensures.steps.0)).has_room

pub append_items-returns : goal.append_items-returns
append_items-returns g t c =
    let left = rest_trees c.loop-item.items in
    (going_same c.loop-item.invariant.going (0 ∷ [])
    (items_key_none left c.in_default.ensures.steps.0)).ends c.append.new.self c.append.ensures

pub append_members-append_escaped-requires : goal.append_members-append_escaped-requires
append_members-append_escaped-requires g t c =
    let key = c.in-Some.key.now in
    let first = node_tree c.in-Some.value in
    let left = rest_pairs c.loop-key.members in
    let others = rest_pairs c.next_member.new.members in
    rw c.as_bytes.ensures.value
    (going_room g.S.Sink.laws c.loop-key.invariant.going (escaped key)
    (tree_key first ++ pairs_key (pairs_of others))
    (members_key_first left key first others c.in-Some.ensures.steps))

pub append_members-append_node-requires : goal.append_members-append_node-requires
append_members-append_node-requires g t c κs within =
    let key = c.in-Some.key.now in
    let first = node_tree c.in-Some.value in
    let left = rest_pairs c.loop-key.members in
    let others = rest_pairs c.next_member.new.members in
    let split = c.in-Some.ensures.steps in
    let one = rw c.as_bytes.ensures.value at c.append_escaped.ensures in
    let going = going_on g.S.Sink.laws c.loop-key.invariant.going (escaped key)
    (tree_key first ++ pairs_key (pairs_of others)) (members_key_first left key first others split)
    c.append_escaped.new.sink one in (
      omega (arith, members_sizes left key first others split, c.loop-key.invariant.less),
      (
        within,
        (
          c.in-Some.ensures.container,
          going_room g.S.Sink.laws going (tree_key first) (pairs_key (pairs_of others)) refl,
        ),
      ),
    )

pub append_members-loop-key-preserved : goal.append_members-loop-key-preserved
append_members-loop-key-preserved g t c =
    let key = c.in-Some.key.now in
    let first = node_tree c.in-Some.value in
    let left = rest_pairs c.loop-key.members in
    let others = rest_pairs c.next_member.new.members in
    let one = rw c.as_bytes.ensures.value at c.append_escaped.ensures in
    let going = going_on g.S.Sink.laws c.loop-key.invariant.going (escaped key)
    (tree_key first ++ pairs_key (pairs_of others))
    (members_key_first left key first others c.in-Some.ensures.steps) c.append_escaped.new.sink
    one in
    record {
      going = going_on g.S.Sink.laws going (tree_key first) (pairs_key (pairs_of others)) refl
          c.append_node.new.sink c.append_node.ensures;
      less = omega (
        arith,
        members_fewer left key first others c.in-Some.ensures.steps,
        c.loop-key.invariant.less,
      );
    }

pub append_members-append-requires : goal.append_members-append-requires
append_members-append-requires g t c =
    let left = rest_pairs c.loop-key.members in
    (going_same c.loop-key.invariant.going (0 ∷ [])
    (members_key_none left c.in_default.ensures.steps.0)).has_room

pub append_members-returns : goal.append_members-returns
append_members-returns g t c =
    let left = rest_pairs c.loop-key.members in
    (going_same c.loop-key.invariant.going (0 ∷ [])
    (members_key_none left c.in_default.ensures.steps.0)).ends c.append.new.self c.append.ensures

pub append_node-append-requires : goal.append_node-append-requires
unfolding tree_key
append_node-append-requires g t c = rw c.in-Null.is at c.requires.room

pub append_node-append-requires-in-Boolean-true : goal.append_node-append-requires-in-Boolean-true
unfolding tree_key
append_node-append-requires-in-Boolean-true g t c =
    let x = c.in-Boolean-true in
    let value : x.field-0 ≡ true = sym x.field-0-is ∙ x.field-0-test in
    rw (x.is, value) at c.requires.room

pub append_node-append-requires-in-Boolean-false :
    goal.append_node-append-requires-in-Boolean-false
unfolding tree_key
append_node-append-requires-in-Boolean-false g t c =
    let x = c.in-Boolean-false in
    let value : x.field-0 ≡ false = sym x.field-0-is ∙ x.field-0-test in
    rw (x.is, value) at c.requires.room

pub append_node-append_number-requires : goal.append_node-append_number-requires
unfolding tree_key
append_node-append_number-requires g t c =
    rw c.as_number.ensures (rw c.in-Number.is at c.requires.room)

pub append_node-append_marked-requires : goal.append_node-append_marked-requires
unfolding tree_key
append_node-append_marked-requires g t c =
    rw c.as_bytes.ensures.value (rw c.in-String.is at c.requires.room)

pub append_node-append_extension-requires : goal.append_node-append_extension-requires
unfolding tree_key
append_node-append_extension-requires g t c =
    rw c.as_extension_value.ensures (rw c.in-Extension.is at c.requires.room)

pub append_node-returns-in-Null : goal.append_node-returns-in-Null
unfolding tree_key
append_node-returns-in-Null g t c = rw c.in-Null.is c.append.ensures

pub append_node-returns-in-Boolean-true : goal.append_node-returns-in-Boolean-true
unfolding tree_key
append_node-returns-in-Boolean-true g t c =
    let x = c.in-Boolean-true in
    let value : x.field-0 ≡ true = sym x.field-0-is ∙ x.field-0-test in
    rw (x.is, value) c.append-in-Boolean-true.ensures

pub append_node-returns-in-Boolean-false : goal.append_node-returns-in-Boolean-false
unfolding tree_key
append_node-returns-in-Boolean-false g t c =
    let x = c.in-Boolean-false in
    let value : x.field-0 ≡ false = sym x.field-0-is ∙ x.field-0-test in
    rw (x.is, value) c.append-in-Boolean-false.ensures

pub append_node-returns-in-Number : goal.append_node-returns-in-Number
unfolding tree_key
append_node-returns-in-Number g t c =
    rw c.in-Number.is (rw c.as_number.ensures at c.append_number.ensures)

pub append_node-returns-in-String : goal.append_node-returns-in-String
unfolding tree_key
append_node-returns-in-String g t c =
    rw c.in-String.is (rw c.as_bytes.ensures.value at c.append_marked.ensures)

pub append_node-returns-in-Extension : goal.append_node-returns-in-Extension
unfolding tree_key
append_node-returns-in-Extension g t c =
    rw c.in-Extension.is (rw c.as_extension_value.ensures at c.append_extension.ensures)
