use Rattle.std.proofs.Common.{ap, ◌++◌}
use Rattle.jsonb_functions.proofs.PathPlaceLaws.{places_first, walk_parts}
use Rattle.jsonb_functions.proofs.selection.+append_places.Goals as goal

pub loop-next-init : goal.loop-next-init
loop-next-init t c = record {
  appended = ap (λ places. c.args.found.now.items ++ places)
      (places_first c.in-Some.left.now c.selector-item.result c.args.bytes.now c.args.place
      c.places_from-walk.result c.in-len1-up.len_at_least (cc (c.selector-item.is))
      c.places_from-walk.ensures c.args.path.now c.in-Some.ensures);
  parts = walk_parts c.selector-item.result c.args.bytes.now c.args.place
      c.places_from-walk.result c.requires c.places_from-walk.ensures;
}
