use Rattle.jsonb_codec.specs.Shape.{key_payloads}
use Rattle.jsonb_codec.proofs.ShapeWriting.{Going}
use Rattle.jsonb_codec.proofs.writer.append.append_keys.Given as goal

abbrev pub invariant-loop-key : goal.invariant-loop-key
invariant-loop-key g l =
    Going g.S.Source.meaning.members key_payloads l.fn.members l.fn.out l.out l.left

abbrev pub decreases-loop-key : goal.decreases-loop-key
decreases-loop-key g l = g.S.Source.meaning.members_size l.left
