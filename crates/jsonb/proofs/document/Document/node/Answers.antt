use Rattle.std.proofs.Common.{arith}
use Rattle.jsonb_codec.proofs.DepthLaws.{Payload-depth}
use Rattle.jsonb.proofs.document.Document.node.Goals as goal

pub returns-clause-shallow : goal.returns-clause-shallow
returns-clause-shallow c =
    omega (arith, Payload-depth _ _ c.part.ensures.means.1, c.part.ensures.len)
