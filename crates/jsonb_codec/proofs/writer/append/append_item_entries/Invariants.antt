use Rattle.std.proofs.Common.{◌≡◌}
use Rattle.jsonb_codec.specs.Shape.{entries, body}
use Rattle.jsonb_codec.proofs.ShapeWriting.{Going}
use Rattle.jsonb_codec.proofs.writer.append.append_item_entries.Given as goal

abbrev pub invariant-loop-item : goal.invariant-loop-item
invariant-loop-item g l = record {
  going : Going g.S.Source.meaning.items entries l.fn.items l.fn.out l.out l.left;
  size : l.size_left ≡ body going.left;
}

abbrev pub decreases-loop-item : goal.decreases-loop-item
decreases-loop-item g l = g.S.Source.meaning.items_size l.left
