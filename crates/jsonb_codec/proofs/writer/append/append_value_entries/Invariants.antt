use Rattle.std.proofs.Common.{◌≡◌}
use Rattle.jsonb_codec.specs.Shape.{entries, body}
use Rattle.jsonb_codec.proofs.ShapeWriting.{Going}
use Rattle.jsonb_codec.proofs.writer.append.append_value_entries.Given as goal

abbrev pub invariant-loop-key : goal.invariant-loop-key
invariant-loop-key g l = record {
  going : Going g.S.Source.meaning.members entries l.fn.members l.fn.out l.out l.left;
  size : l.size_left ≡ body going.left;
}

abbrev pub decreases-loop-key : goal.decreases-loop-key
decreases-loop-key g l = g.S.Source.meaning.members_size l.left
