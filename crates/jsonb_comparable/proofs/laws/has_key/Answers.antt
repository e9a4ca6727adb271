use Rattle.std.proofs.Common.{arith}
use Rattle.jsonb_codec.proofs.WellFormed.{IsTree-Doc}
use Rattle.jsonb_comparable.proofs.laws.has_key.Goals as goal

pub returns : goal.returns
returns c = λ t means. IsTree-Doc c.args.bytes.now t (λ i. omega (arith, c.type_inv.bytes i)) means
