use Rattle.std.proofs.Common.{◌≡◌, ◌<◌, ◌++◌, ◌∙◌, [], ap, arith, codes, false, length, refl}
use Rattle.std.proofs.Common.{rules, sym, take}
use Rattle.std.proofs.Output.{has_written_styled_of_eq}
use Rattle.std.proofs.lemmas.List.{append-nil, length-take-le}
use Rattle.std.specs.List.{list_all}
use Rattle.jsonb_value.proofs.Json.Tests.{and_true}
use Rattle.jsonb_value.proofs.Writing.{joins_two, joins_three}
use Rattle.std.specs.Prelude.{IsTrue}
use Rattle.jsonb_path.specs.PathParts.{are_parts_after, is_accessor}
use Rattle.jsonb_path.specs.PathText.{accessor_text, accessors_text, expression_text}
use Rattle.jsonb_path.specs.PathText.{predicate_text, primary_text}
use Rattle.jsonb_path.specs.PathTree.{accessor_of, accessors_of, expression_at, nodes_of, primary_of}
use Rattle.jsonb_path.specs.PathTree.{test_at}
use Rattle.jsonb_path.proofs.PathTextLaws.{first_left, has_any, later, nothing_left}
use Rattle.jsonb_path.proofs.PathTextLaws.{one_more, operation_parts, part_text}
use Rattle.jsonb_path.proofs.PathTextLaws.{range_text, starting_parts, subscripts_onward}
use Rattle.jsonb_path.proofs.PathTextLaws.{test_text}
use Rattle.jsonb_path.proofs.PathTreeLaws.{part_at, parts_before}
use Rattle.jsonb_path.proofs.print.+print.Goals as goal

pub write_at-write_part-requires : goal.write_at-write_part-requires
write_at-write_part-requires g t c κs within =
    let ps = c.args.parts.now in
    let at = c.args.at in
    let place : at < length ps = search rules in
    let before : IsTrue (are_parts_after [] ps) = search rules in
    let fewer : length (take at ps) ≡ at = length-take-le at ps (omega (arith, place)) in (
      omega (arith, fewer, place),
      (
        within,
        (
          parts_before ps at before,
          part_at ps at c.index-parts-at.result before place c.index-parts-at.is,
        ),
      ),
    )

pub write_at-returns-clause-part : goal.write_at-returns-clause-part
write_at-returns-clause-part g t c flush ok =
    let one = c.write_str.ensures.styled flush (search rules) in
    let two = c.write_part.ensures one.flush (search rules) in
    let three = c.write_str-2.ensures.styled two.flush ok in
    joins_three _ _ _ _ _ _ _ _ _ one two three
    (ap (λ s. c.args.opening.now ++ (s ++ c.args.close.now))
    (part_text c.args.rank c.args.parts.now c.args.at c.index-parts-at.result (search rules)
    c.index-parts-at.is))

pub write_at-returns-clause-test : goal.write_at-returns-clause-test
write_at-returns-clause-test g t c is_test flush ok =
    let one = c.write_str.ensures.styled flush (search rules) in
    let two = c.write_part.ensures one.flush (search rules) in
    let three = c.write_str-2.ensures.styled two.flush ok in
    joins_three _ _ _ _ _ _ _ _ _ one two three
    (ap (λ s. c.args.opening.now ++ (s ++ c.args.close.now))
    (part_text c.args.rank c.args.parts.now c.args.at c.index-parts-at.result (search rules)
    c.index-parts-at.is ∙ test_text c.args.rank c.args.parts.now c.args.at is_test))

pub write_operation-returns-clause-parts : goal.write_operation-returns-clause-parts
write_operation-returns-clause-parts g t c flush ok =
    let nodes = nodes_of c.args.parts.now in
    let l = expression_text c.args.rank (expression_at nodes c.args.left) in
    let r = expression_text c.args.rank (expression_at nodes c.args.right) in
    let one = c.write_at.ensures.part flush (search rules) in
    let two = c.write_at-2.ensures.part one.flush ok in
    joins_two _ _ _ _ _ _ _ one two
    (operation_parts _ l c.args.word.now r _
    ∙ (λ i. c.opening.ensures i ++ (l ++ (c.args.word.now ++ (r ++ c.closing.ensures i)))))

pub write_operation-returns-clause-tests : goal.write_operation-returns-clause-tests
write_operation-returns-clause-tests g t c left_is right_is flush ok =
    let nodes = nodes_of c.args.parts.now in
    let l = predicate_text c.args.rank (test_at nodes c.args.left) in
    let r = predicate_text c.args.rank (test_at nodes c.args.right) in
    let one = c.write_at.ensures.test left_is flush (search rules) in
    let two = c.write_at-2.ensures.test right_is one.flush ok in
    joins_two _ _ _ _ _ _ _ one two
    (operation_parts _ l c.args.word.now r _
    ∙ (λ i. c.opening.ensures i ++ (l ++ (c.args.word.now ++ (r ++ c.closing.ensures i)))))

pub write_starting-returns : goal.write_starting-returns
write_starting-returns g t c flush ok =
    let nodes = nodes_of c.args.parts.now in
    let l = expression_text 3 (expression_at nodes c.args.left) in
    let p = primary_text false (primary_of nodes c.args.prefix.now) in
    let one = c.write_at.ensures.part flush (search rules) in
    let two = c.write_source.ensures one.flush (search rules) in
    let three = c.write_str.ensures.styled two.flush ok in
    joins_three _ _ _ _ _ _ _ _ _ one two three
    (starting_parts _ l (codes " starts with ") p _
    ∙ (λ i. c.opening.ensures i
    ++ (l ++ (codes " starts with " ++ ((p ++ []) ++ c.closing.ensures i)))))

pub write_subscript-returns-in-Some : goal.write_subscript-returns-in-Some
write_subscript-returns-in-Some g t c flush ok =
    let one = c.write_at.ensures.part flush (search rules) in
    let two = c.write_at-in-Some.ensures.part one.flush ok in
    joins_two _ _ _ _ _ _ _ one two (range_text (nodes_of c.args.parts.now) c.args.separator.now c.args.subscript.first
    c.args.subscript.last _ c.in-Some.is)

pub write_subscripts-loop-left-preserved : goal.write_subscripts-loop-left-preserved
write_subscripts-loop-left-preserved g t c =
    let (all, done, whole, writes, text) = c.loop-left.invariant in
    let on = subscripts_onward _ _ _ c.args.parts.now c.loop-left.left.now _
    c.loop-left.separator.now done _
    (λ flush. joins_two _ _ _ _ _ _ _ (writes flush)
    (c.write_subscript.ensures (writes flush).flush (search rules)) refl)
    c.in-len1-up.len_at_least all whole in
    (on.0, on.1, on.2, on.3, search rules)

pub write_subscripts-returns : goal.write_subscripts-returns
write_subscripts-returns g t c flush ok =
    let whole = c.loop-left.invariant.2 in
    let none = nothing_left c.loop-left.left.now c.in_default.len_below in
    let so_far = c.loop-left.invariant.3 flush in
    let one = c.write_str-2.ensures.styled so_far.flush ok in
    joins_two _ _ _ _ _ _ _ so_far one (rw none at whole)

pub write_chain-loop-left-init : goal.write_chain-loop-left-init
write_chain-loop-left-init g t c =
    let nodes = nodes_of c.args.parts.now in
    let steps = c.args.accessors.now in
    let rest = accessors_text (accessors_of nodes steps) in (
      c.requires.accessors,
      primary_text _ (primary_of nodes c.args.source.now),
      ap (λ b. primary_text b (primary_of nodes c.args.source.now) ++ rest)
          (sym (has_any nodes steps _ c.is_empty.ensures)),
      λ flush. c.write_source.ensures flush (search rules),
    )

pub write_chain-loop-left-preserved : goal.write_chain-loop-left-preserved
write_chain-loop-left-preserved g t c =
    let ps = c.args.parts.now in
    let nodes = nodes_of ps in
    let left = c.loop-left.left.now in
    let (all, done, whole, writes) = c.loop-left.invariant in
    let x = c.accessor-item.result in
    let split = first_left left x c.in-len1-up.len_at_least c.accessor-item.is in
    let both = and_true (is_accessor ps x) (list_all (is_accessor ps) (later left))
    (rw split at all) in (
      both.1,
      done ++ accessor_text (accessor_of nodes x),
      one_more done (accessor_text (accessor_of nodes x))
          (accessors_text (accessors_of nodes (later left))) _ (rw split at whole),
      λ flush.
          let so_far = writes flush in
          let one = c.write_accessor.ensures so_far.flush (search rules) in
          joins_two _ _ _ _ _ _ _ so_far one refl,
    )

pub write_chain-returns : goal.write_chain-returns
write_chain-returns g t c flush ok =
    let left = c.loop-left.left.now in
    let (all, done, whole, writes) = c.loop-left.invariant in
    let none = nothing_left left c.in_default.len_below in
    has_written_styled_of_eq _ _ _ _ _ (sym (append-nil done) ∙ rw none at whole) (writes flush)
