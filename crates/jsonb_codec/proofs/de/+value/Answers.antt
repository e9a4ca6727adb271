use Rattle.std.proofs.Common.{rules, ◌≡◌, map, sym, ap, subst, ◌∙◌, arith}
use Rattle.std.specs.Prelude.{string_cmp}
use Rattle.std.specs.BTreeMap.{IsFromIterResult}
use Rattle.jsonb_value.specs.Tree.{Ascend}
use Rattle.jsonb_value.specs.Value.{tree_of, pairs_view}
use Rattle.jsonb_codec.proofs.Building.{trees_and, trees_and-none, pairs_and, pairs_and-none}
use Rattle.jsonb_codec.proofs.Building.{trees_and-push, pairs_and-push, pairs_and-later, seen}
use Rattle.jsonb_codec.proofs.SortOrder.{from_ascending}
use Rattle.jsonb_codec.proofs.de.+value.Goals as goal

pub build_items-loop-child-preserved : goal.build_items-loop-child-preserved
build_items-loop-child-preserved t c =
    let l = c.loop-child in let k = c.in-Some.ensures in
    let (v, (more, same)) = c.in_ok-push_part.ensures.ok in
    record {
      left = λ ts are.
          let (us, (whole, left)) = l.invariant.left ts are in
          let f = k.first us left in (
            f.others,
            (
              trees_and-push _ v whole f.are (same f.first f.is) more,
              f.later,
            ),
          );
      shorter = omega (arith, k.payloads_len, l.invariant.shorter);
    }

pub build_items-returns-clause-ok : goal.build_items-returns-clause-ok
build_items-returns-clause-ok t c ts are =
    let vs = map tree_of c.loop-child.built.items in
    let (us, (whole, left)) = c.loop-child.invariant.left ts are in
    sym (whole ∙ ap (trees_and vs) (c.in_default.ensures.none us left) ∙ trees_and-none vs)

pub build_members-loop-member-preserved : goal.build_members-loop-member-preserved
build_members-loop-member-preserved t c =
    let l = c.loop-member in let k = c.in-Some.ensures in
    let (v, (more, same)) = c.in_ok-insert_part.ensures.ok in
    record {
      left = λ all whole_are.
          let (us, (whole, left)) = l.invariant.left all whole_are in
          let f = k.first us left in (
            f.others,
            (
              pairs_and-push _ c.in_ok-key.key v whole_are.0 whole f.are c.in_ok-key.ensures.ok
                  (same f.value f.is) more,
              f.left,
            ),
          );
      shorter = omega (arith, k.values_len, l.invariant.shorter);
    }

pub build_members-returns-clause-ok : goal.build_members-returns-clause-ok
build_members-returns-clause-ok t c ps are =
    let ms = seen c.loop-member.built.entries in
    let (us, (whole, left)) = c.loop-member.invariant.left ps are in
    sym (whole ∙ ap (pairs_and ms) (c.in_default.ensures.none us left) ∙ pairs_and-none ms)

pub build_many-loop-member-preserved : goal.build_many-loop-member-preserved
build_many-loop-member-preserved t c =
    let l = c.loop-member in let k = c.in-Some.ensures in
    let (v, (more, same)) = c.in_ok-push_pair.ensures.ok in
    record {
      left = λ all whole_are.
          let (us, (whole, left)) = l.invariant.left all whole_are in
          let f = k.first us left in (
            f.others,
            (
              pairs_and-later _ c.in_ok-key.key v whole f.are c.in_ok-key.ensures.ok
                  (same f.value f.is) more,
              f.left,
            ),
          );
      shorter = omega (arith, k.values_len, l.invariant.shorter);
    }

pub build_many-returns-clause-ok : goal.build_many-returns-clause-ok
build_many-returns-clause-ok t c ps are =
    let es = c.loop-member.built.items in
    let (us, (whole, left)) = c.loop-member.invariant.left ps are in
    let all : ps ≡ pairs_view es = whole
    ∙ ap (pairs_and (seen es)) (c.in_default.ensures.none us left) ∙ pairs_and-none (seen es) in
    let made : IsFromIterResult string_cmp es c.in_ok-collect.field-0 = search rules in
    from_ascending es c.in_ok-collect.field-0 (subst Ascend all are.0) made ∙ sym all
