use Rattle.std.proofs.Common.{◌≡◌, ◌<◌, ◌&&◌, [], ap, arith, get_or, length, subst, sym, take}
use Rattle.std.specs.List.{list_all}
use Rattle.std.specs.Prelude.{IsTrue, Some, map}
use Rattle.jsonb_value.proofs.Json.Tests.{and_true}
use Rattle.std.proofs.lemmas.List.{length-take-le}
use Rattle.jsonb.specs.Node.{node_tree}
use Rattle.jsonb_path.specs.Found.{filtered_by, left_of, outcome_of, place_of}
use Rattle.jsonb_path.specs.Meaning.{access, follow}
use Rattle.jsonb_path.specs.PathParts.{are_parts_after, is_accessor, is_part, is_source}
use Rattle.jsonb_path.specs.PathTree.{accessor_of, nodes_of, test_at}
use Rattle.jsonb_path.proofs.DirectLaws.{pair_from}
use Rattle.jsonb_path.proofs.FollowLaws.{accessors_left, along_on, chosen_on, front_of}
use Rattle.jsonb_path.proofs.FollowLaws.{outcome_from, part_expression, subscripts_left, test_part}
use Rattle.jsonb_path.proofs.FoundLaws.{slice_on, step_on}
use Rattle.jsonb_path.proofs.PathTextLaws.{later}
use Rattle.jsonb_path.proofs.PathTreeLaws.{part_at, parts_before, test_within}
use Rattle.jsonb_path.proofs.follow.+follow.Goals as goal

pub follow_at-follow-requires : goal.follow_at-follow-requires
follow_at-follow-requires t c =
    let ps = c.args.parts.now in
    let at = c.args.at in
    let place : at < length ps = c.requires.place in
    let before : IsTrue (are_parts_after [] ps) = c.requires.parts in
    let fewer : length (take at ps) ≡ at = length-take-le at ps (omega (arith, place)) in (
      omega (arith, fewer, place),
      (
        parts_before ps at before,
        part_at ps at c.index-parts-at.result before place c.index-parts-at.is,
      ),
    )

pub follow_at-returns : goal.follow_at-returns
follow_at-returns t c =
    outcome_from _ _ _ c.follow.ensures
    (ap (follow (place_of c.args.place.now))
    (part_expression c.args.parts.now c.args.at c.index-parts-at.result c.requires.place
    c.index-parts-at.is))

pub along-loop-left-preserved : goal.along-loop-left-preserved
along-loop-left-preserved t c = record {
  all = accessors_left c.args.parts.now c.loop-left.left.now c.accessor-item.result
      c.in-len1-up.len_at_least c.accessor-item.is c.loop-left.invariant.all;
  whole = along_on (nodes_of c.args.parts.now) c.loop-left.left.now c.accessor-item.result
      c.in-len1-up.len_at_least c.accessor-item.is (place_of c.loop-left.place)
      (place_of c.past-place.result) (outcome_of c.loop-left.outcome) _ _
      (c.past-place.ensures (nodes_of c.args.parts.now)) c.in_ok-outcome.ensures
      c.loop-left.invariant.whole;
}

pub append_each-loop-left-preserved : goal.append_each-loop-left-preserved
append_each-loop-left-preserved t c =
    slice_on (access (place_of c.args.place.now)
    (accessor_of (nodes_of c.args.parts.now) c.args.accessor.now))
    c.loop-left.left.now c.value-item.result c.in-len1-up.len_at_least c.value-item.is
    c.loop-left.found.items c.access.new.found.items c.in_ok-access.field-0 _
    c.loop-left.invariant c.in_ok-access.ensures

pub filter-loop-unit-preserved : goal.filter-loop-unit-preserved
filter-loop-unit-preserved t c =
    step_on
    (filtered_by (place_of c.args.place.now) (test_at (nodes_of c.args.parts.now) c.args.test))
    (node_tree c.in-Some.unit) (left_of c.loop-unit.units) (left_of c.next_unit.new.self)
    c.in-Some.ensures c.loop-unit.found.items c.append_if-in-Some.new.found.items
    c.in_ok-append_if.field-0 _ c.loop-unit.invariant c.in_ok-append_if.ensures

pub append_selected-loop-left-preserved : goal.append_selected-loop-left-preserved
append_selected-loop-left-preserved t c = record {
  all = subscripts_left c.args.parts.now c.loop-left.left.now c.in-len1-up.len_at_least
      c.loop-left.invariant.all;
  found = chosen_on (place_of c.args.place.now) (nodes_of c.args.parts.now)
      (get_or c.loop-left.left.now 0 _) c.loop-left.left.now (later c.loop-left.left.now)
      (Some (map node_tree c.args.items.now))
      (front_of c.loop-left.left.now _ c.in-len1-up.len_at_least)
      c.loop-left.found.items c.append_named_in.new.found.items c.in_ok-append_named_in.field-0 _
      c.loop-left.invariant.found c.in_ok-append_named_in.ensures;
}

pub judge_at-judge-requires : goal.judge_at-judge-requires
judge_at-judge-requires t c =
    let ps = c.args.parts.now in
    let at = c.args.at in
    let place : at < length ps = test_within ps at c.requires.test in
    let before : IsTrue (are_parts_after [] ps) = c.requires.parts in
    let fewer : length (take at ps) ≡ at = length-take-le at ps (omega (arith, place)) in (
      omega (arith, fewer, place),
      (
        parts_before ps at before,
        test_part ps at c.index-parts-at.result c.in-Test.test before place
            c.index-parts-at.is c.in-Test.is,
      ),
    )

pub follow-along-requires : goal.follow-along-requires
follow-along-requires t c =
    let ps = c.args.parts.now in
    let both : IsTrue (is_source ps c.in-Chain.source
    && list_all (is_accessor ps) c.in-Chain.accessors.items) =
    subst (λ p. IsTrue (is_part ps p)) c.in-Chain.is c.requires.part in
    let all = (and_true (is_source ps c.in-Chain.source)
    (list_all (is_accessor ps) c.in-Chain.accessors.items) both).1 in
    let same : IsTrue (list_all (is_accessor ps) c.deref.result.now) =
    subst (λ xs. IsTrue (list_all (is_accessor ps) xs)) (sym c.deref.ensures.value) all in
    (omega arith, (c.requires.parts, c.along_members-ahead.ensures.left ps same))

pub compare_at-returns-in-Some-Some : goal.compare_at-returns-in-Some-Some
compare_at-returns-in-Some-Some t c =
    pair_from c.args.place.now.mode c.args.comparison _ _ _ _ _
    (c.compare_direct.ensures c.args.place.now.mode) c.in-Some-Some.ensures
    c.in-Some-Some.ensures'
