use Rattle.std.proofs.Common.{◌≤◌, ◌+◌, ◌*◌}
use Rattle.jsonb_codec.specs.Shape.{entries, payloads}
use Rattle.jsonb_codec.specs.Room.{HasWordsAt}
use Rattle.jsonb_codec.proofs.ShapeWriting.{Going}
use Rattle.jsonb_codec.proofs.writer.append.+append.Given as goal

-- The content of a container is smaller than the container.
abbrev pub decreases-append_array : goal.decreases-append_array
decreases-append_array g l = 3 * g.S.Source.meaning.items_size l.items + 2

abbrev pub decreases-append_object : goal.decreases-append_object
decreases-append_object g l = 3 * g.S.Source.meaning.object_size l.object + 2

abbrev pub decreases-append_child : goal.decreases-append_child
decreases-append_child g l = 3 * g.S.Source.meaning.child_size l.child + 3

abbrev pub decreases-append_items : goal.decreases-append_items
decreases-append_items g l = 3 * g.S.Source.meaning.items_size l.items + 1

abbrev pub decreases-append_values : goal.decreases-append_values
decreases-append_values g l = 3 * g.S.Source.meaning.members_size l.members + 1

-- The words of the children that are left are where they were written.
abbrev pub invariant-append_items-loop-item : goal.invariant-append_items-loop-item
invariant-append_items-loop-item g l =
    let m = g.S.Source.meaning in record {
      going : Going m.items payloads l.fn.items l.fn.out l.out l.left;
      words : HasWordsAt l.entry (entries going.left) l.out.items;
      smaller : m.items_size l.left ≤ m.items_size l.fn.items;
    }

abbrev pub decreases-append_items-loop-item : goal.decreases-append_items-loop-item
decreases-append_items-loop-item g l = g.S.Source.meaning.items_size l.left

abbrev pub invariant-append_values-loop-value : goal.invariant-append_values-loop-value
invariant-append_values-loop-value g l =
    let m = g.S.Source.meaning in record {
      going : Going m.members payloads l.fn.members l.fn.out l.out l.left;
      words : HasWordsAt l.entry (entries going.left) l.out.items;
      smaller : m.members_size l.left ≤ m.members_size l.fn.members;
    }

abbrev pub decreases-append_values-loop-value : goal.decreases-append_values-loop-value
decreases-append_values-loop-value g l = g.S.Source.meaning.members_size l.left
