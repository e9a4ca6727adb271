use Rattle.std.proofs.Common.{◌≡◌, ◌<◌, ◌∙◌, [], ap, arith, length, map, sym, take}
use Rattle.std.specs.Prelude.{◌&&◌, IsTrue}
use Rattle.std.proofs.lemmas.List.{length-take-le}
use Rattle.jsonb.specs.Node.{member_tree}
use Rattle.jsonb_path.specs.Meaning.{all_given, names_along, names_in, names_select}
use Rattle.jsonb_path.specs.PathParts.{are_parts_after}
use Rattle.jsonb_path.specs.PathTree.{accessors_of, nodes_of, subscripts_of}
use Rattle.jsonb_path.proofs.FollowLaws.{accessors_left, part_expression, subscripts_left}
use Rattle.jsonb_path.proofs.GivenLaws.{along_step, select_fails, select_on}
use Rattle.jsonb_path.proofs.PathTextLaws.{later, nothing_left}
use Rattle.jsonb_path.proofs.PathTreeLaws.{part_at, parts_before}
use Rattle.jsonb_path.proofs.given.+given.Goals as goal

pub given_at-given_in-requires : goal.given_at-given_in-requires
given_at-given_in-requires t c =
    let ps = c.args.parts.now in
    let at = c.args.at in
    let place : at < length ps = c.requires.place in
    let before : IsTrue (are_parts_after [] ps) = c.requires.parts in
    let fewer : length (take at ps) ≡ at = length-take-le at ps (omega (arith, place)) in (
      omega (arith, fewer, place),
      (
        parts_before ps at before,
        part_at ps at c.index-parts-at.result before place c.index-parts-at.is,
      ),
    )

pub given_at-returns : goal.given_at-returns
given_at-returns t c =
    c.given_in.ensures
    ∙ ap (λ e. all_given (map member_tree c.args.variables.now) (names_in e))
    (part_expression c.args.parts.now c.args.at c.index-parts-at.result c.requires.place
    c.index-parts-at.is)

pub given_along-returns-then-not-given_access : goal.given_along-returns-then-not-given_access
given_along-returns-then-not-given_access t c =
    let vs = map member_tree c.args.variables.now in
    let nodes = nodes_of c.args.parts.now in
    let left = c.loop-left.left.now in
    let rest = all_given vs (names_along (accessors_of nodes (later left))) in
    sym (c.loop-left.invariant.given
    ∙ along_step vs nodes left c.accessor-item.result c.in-len1-up.len_at_least c.accessor-item.is
    ∙ ap (λ b. b && rest) (sym c.given_access.ensures ∙ c.if-not-given_access.true))

pub given_along-loop-left-preserved : goal.given_along-loop-left-preserved
given_along-loop-left-preserved t c =
    let vs = map member_tree c.args.variables.now in
    let nodes = nodes_of c.args.parts.now in
    let left = c.loop-left.left.now in
    let rest = all_given vs (names_along (accessors_of nodes (later left))) in record {
      all = accessors_left c.args.parts.now left c.accessor-item.result c.in-len1-up.len_at_least
          c.accessor-item.is c.loop-left.invariant.all;
      given = c.loop-left.invariant.given
          ∙ along_step vs nodes left c.accessor-item.result c.in-len1-up.len_at_least
          c.accessor-item.is
          ∙ ap (λ b. b && rest) (sym c.given_access.ensures ∙ c.if-not-given_access.false);
    }

pub given_along-returns : goal.given_along-returns
given_along-returns t c =
    let vs = map member_tree c.args.variables.now in
    let nodes = nodes_of c.args.parts.now in
    sym (c.loop-left.invariant.given
    ∙ ap (λ steps. all_given vs (names_along (accessors_of nodes steps)))
    (nothing_left c.loop-left.left.now c.in_default.len_below))

pub given_select-returns-then-not-given_subscript :
    goal.given_select-returns-then-not-given_subscript
given_select-returns-then-not-given_subscript t c =
    select_fails (map member_tree c.args.variables.now) (nodes_of c.args.parts.now)
    c.loop-left.left.now _ c.given_subscript.result c.given_subscript.ensures
    c.in-len1-up.len_at_least _ c.loop-left.invariant.given c.if-not-given_subscript.true

pub given_select-loop-left-preserved : goal.given_select-loop-left-preserved
given_select-loop-left-preserved t c = record {
  all = subscripts_left c.args.parts.now c.loop-left.left.now c.in-len1-up.len_at_least
      c.loop-left.invariant.all;
  given = select_on (map member_tree c.args.variables.now) (nodes_of c.args.parts.now)
      c.loop-left.left.now _ c.given_subscript.result c.given_subscript.ensures
      c.in-len1-up.len_at_least _ c.loop-left.invariant.given c.if-not-given_subscript.false;
}

pub given_select-returns : goal.given_select-returns
given_select-returns t c =
    let vs = map member_tree c.args.variables.now in
    let nodes = nodes_of c.args.parts.now in
    sym (c.loop-left.invariant.given
    ∙ ap (λ ss. all_given vs (names_select (subscripts_of nodes ss)))
    (nothing_left c.loop-left.left.now c.in_default.len_below))
