use Rattle.std.proofs.Common.{◌≡◌, ◌<◌, ◌∙◌, [], ap, arith, length, sym, take}
use Rattle.std.specs.Prelude.{◌&&◌, IsTrue, nat_le}
use Rattle.std.proofs.lemmas.List.{length-take-le}
use Rattle.jsonb_path.specs.Height.{height, steps_height, subscripts_height}
use Rattle.jsonb_path.specs.PathParts.{are_parts_after}
use Rattle.jsonb_path.specs.PathTree.{accessors_of, nodes_of, subscripts_of}
use Rattle.jsonb_path.proofs.FollowLaws.{accessors_left, part_expression, subscripts_left}
use Rattle.jsonb_path.proofs.HeightLaws.{along_step, select_fails, select_on, zero_low}
use Rattle.jsonb_path.proofs.PathTextLaws.{later, nothing_left}
use Rattle.jsonb_path.proofs.PathTreeLaws.{part_at, parts_before}
use Rattle.jsonb_path.proofs.height.+height.Goals as goal

pub low_at-low_in-requires : goal.low_at-low_in-requires
low_at-low_in-requires t c =
    let ps = c.args.parts.now in
    let at = c.args.at in
    let place : at < length ps = c.requires.place in
    let before : IsTrue (are_parts_after [] ps) = c.requires.parts in
    let fewer : length (take at ps) ≡ at = length-take-le at ps (omega (arith, place)) in (
      omega (arith, fewer, place),
      (
        parts_before ps at before,
        part_at ps at c.index-parts-at.result before place c.index-parts-at.is,
      ),
    )

pub low_at-returns : goal.low_at-returns
low_at-returns t c =
    c.low_in.ensures
    ∙ ap (λ e. nat_le (height e) c.args.levels)
    (part_expression c.args.parts.now c.args.at c.index-parts-at.result c.requires.place
    c.index-parts-at.is)

pub low_along-returns-then-not-low_access : goal.low_along-returns-then-not-low_access
low_along-returns-then-not-low_access t c =
    let n = c.args.levels in
    let nodes = nodes_of c.args.parts.now in
    let left = c.loop-left.left.now in
    let rest = nat_le (steps_height (accessors_of nodes (later left))) n in
    sym (c.loop-left.invariant.low
    ∙ along_step n nodes left c.accessor-item.result c.in-len1-up.len_at_least c.accessor-item.is
    ∙ ap (λ b. b && rest) (sym c.low_access.ensures ∙ c.if-not-low_access.true))

pub low_along-loop-left-preserved : goal.low_along-loop-left-preserved
low_along-loop-left-preserved t c =
    let n = c.args.levels in
    let nodes = nodes_of c.args.parts.now in
    let left = c.loop-left.left.now in
    let rest = nat_le (steps_height (accessors_of nodes (later left))) n in record {
      all = accessors_left c.args.parts.now left c.accessor-item.result c.in-len1-up.len_at_least
          c.accessor-item.is c.loop-left.invariant.all;
      low = c.loop-left.invariant.low
          ∙ along_step n nodes left c.accessor-item.result c.in-len1-up.len_at_least
          c.accessor-item.is
          ∙ ap (λ b. b && rest) (sym c.low_access.ensures ∙ c.if-not-low_access.false);
    }

pub low_along-returns : goal.low_along-returns
low_along-returns t c =
    let nodes = nodes_of c.args.parts.now in
    sym (c.loop-left.invariant.low
    ∙ ap (λ steps. nat_le (steps_height (accessors_of nodes steps)) c.args.levels)
    (nothing_left c.loop-left.left.now c.in_default.len_below)
    ∙ zero_low c.args.levels)

pub low_select-returns-then-not-low_subscript :
    goal.low_select-returns-then-not-low_subscript
low_select-returns-then-not-low_subscript t c =
    select_fails c.args.levels (nodes_of c.args.parts.now)
    c.loop-left.left.now _ c.low_subscript.result c.low_subscript.ensures
    c.in-len1-up.len_at_least _ c.loop-left.invariant.low c.if-not-low_subscript.true

pub low_select-loop-left-preserved : goal.low_select-loop-left-preserved
low_select-loop-left-preserved t c = record {
  all = subscripts_left c.args.parts.now c.loop-left.left.now c.in-len1-up.len_at_least
      c.loop-left.invariant.all;
  low = select_on c.args.levels (nodes_of c.args.parts.now)
      c.loop-left.left.now _ c.low_subscript.result c.low_subscript.ensures
      c.in-len1-up.len_at_least _ c.loop-left.invariant.low c.if-not-low_subscript.false;
}

pub low_select-returns : goal.low_select-returns
low_select-returns t c =
    let nodes = nodes_of c.args.parts.now in
    sym (c.loop-left.invariant.low
    ∙ ap (λ ss. nat_le (subscripts_height (subscripts_of nodes ss)) c.args.levels)
    (nothing_left c.loop-left.left.now c.in_default.len_below)
    ∙ zero_low c.args.levels)
