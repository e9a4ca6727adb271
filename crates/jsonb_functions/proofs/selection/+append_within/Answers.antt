use Rattle.std.proofs.Common.{◌≡◌, ap, arith, get_or, ◌++◌}
use Rattle.jsonb_functions.specs.SelectSteps.{asked}
use Rattle.jsonb_functions.proofs.PathPlaceLaws.{places_first, steps_first, walk_parts}
use Rattle.jsonb_functions.proofs.selection.+append_within.Goals as goal

pub loop-next-init : goal.loop-next-init
loop-next-init t c =
    let left = c.in-Some.left.now in
    let s = c.selector-item.result in
    let bytes = c.args.bytes.now in
    let place = c.args.place in
    let walk = c.places_from-walk.result in
    let some = c.in-len1-up.len_at_least in
    let first : get_or left 0 s ≡ s = cc (c.selector-item.is) in
    let are = c.places_from-walk.ensures in record {
      appended = ap (λ places. c.args.found.now.items ++ places)
          (places_first left s bytes place walk some first are c.args.path.now
          (rw c.in-Some.is at c.in_ok-left.ensures.kept));
      taken = omega (
        arith,
        steps_first left s bytes place walk some first are c.requires,
        rw c.in-Some.is at c.in_ok-left.ensures.cost,
        c.in_ok-ask.ensures,
        ap (asked s) c.node_at_place.ensures.tree,
      );
      parts = walk_parts s bytes place walk c.requires are;
    }
