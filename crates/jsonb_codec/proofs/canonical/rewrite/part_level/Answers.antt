use Rattle.std.proofs.Common.{ap}
use Rattle.jsonb_codec.proofs.Decision.{known_part}
use Rattle.jsonb_codec.proofs.PartLaws.{items_are, object_is, small_type}
use Rattle.jsonb_codec.specs.Canon.{shape_of, items_shapes, pairs_shapes}
use Rattle.jsonb_codec.proofs.canonical.rewrite.part_level.Goals as goal

pub returns-in-Array-clause-is : goal.returns-in-Array-clause-is
returns-in-Array-clause-is c t h =
    let (ts, (is, are)) = c.in-Array.ensures.contents t h in
    (items_shapes ts, (ap shape_of is, items_are ts c.in-Array.items are))

pub returns-in-Object-clause-is : goal.returns-in-Object-clause-is
returns-in-Object-clause-is c t h =
    let (ps, (is, are)) = c.in-Object.ensures.contents t h in
    (pairs_shapes ps, (ap shape_of is, object_is ps c.in-Object.object are))

pub invariant_of-result : goal.invariant_of-result
invariant_of-result c =
    let (t, h) = known_part _ _ c.args.part.fact in
    record { small = small_type t h.0 }
