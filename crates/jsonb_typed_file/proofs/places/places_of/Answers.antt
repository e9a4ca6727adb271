use Rattle.jsonb_typed_file.proofs.PlaceLaws.{next_fits, one_more_placed}
use Rattle.jsonb_typed_file.proofs.places.places_of.Goals as goal

pub places_in-end-requires : goal.places_in-end-requires
places_in-end-requires c =
    next_fits c.args.columns.now c.loop-left.left.now _ c.args.rows c.args.start c.loop-left.start
    _ c.loop-left.places.items c.in-len1-up.len_at_least c.loop-left.invariant c.requires

pub loop-left-preserved : goal.loop-left-preserved
loop-left-preserved c =
    one_more_placed c.args.columns.now c.loop-left.left.now _ c.args.rows c.args.start
    c.loop-left.start c.places_in-end.result.1 c.loop-left.places.items c.push.new.self.items
    c.places_in-end.result.0 c.in-len1-up.len_at_least c.loop-left.invariant
    c.places_in-end.ensures.places c.places_in-end.ensures.end (c.in_ok-push.ensures).items
