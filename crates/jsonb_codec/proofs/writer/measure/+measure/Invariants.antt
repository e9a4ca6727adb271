use Rattle.std.proofs.Common.{◌+◌, ◌*◌}
use Rattle.jsonb_codec.specs.Source.{level_size}
use Rattle.jsonb_codec.proofs.Shapes.{Measured}
use Rattle.jsonb_codec.proofs.writer.measure.+measure.Given as goal

-- A child is larger than its content. A container is as large as its children, so the factor leaves
-- room for the calls between them.
abbrev pub decreases-measure_child : goal.decreases-measure_child
decreases-measure_child g l = 3 * level_size g.S.Source.meaning l.child + 2

abbrev pub decreases-measure_array : goal.decreases-measure_array
decreases-measure_array g l = 3 * g.S.Source.meaning.items_size l.items + 1

abbrev pub decreases-measure_items : goal.decreases-measure_items
decreases-measure_items g l = 3 * g.S.Source.meaning.items_size l.items

abbrev pub decreases-measure_object : goal.decreases-measure_object
decreases-measure_object g l = 3 * g.S.Source.meaning.object_size l.object + 1

abbrev pub decreases-measure_members : goal.decreases-measure_members
decreases-measure_members g l = 3 * g.S.Source.meaning.members_size l.members

abbrev pub invariant-measure_items-loop-item : goal.invariant-measure_items-loop-item
invariant-measure_items-loop-item g l =
    let m = g.S.Source.meaning in
    Measured m.items m.items_size m.items_held l.fn.items l.fn.start l.end l.left

abbrev pub decreases-measure_items-loop-item : goal.decreases-measure_items-loop-item
decreases-measure_items-loop-item g l = g.S.Source.meaning.items_size l.left

abbrev pub invariant-measure_members-loop-key : goal.invariant-measure_members-loop-key
invariant-measure_members-loop-key g l =
    let m = g.S.Source.meaning in
    Measured m.members m.members_size m.members_held l.fn.members l.fn.start l.end l.left

abbrev pub decreases-measure_members-loop-key : goal.decreases-measure_members-loop-key
decreases-measure_members-loop-key g l = g.S.Source.meaning.members_size l.left
