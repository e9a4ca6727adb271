use Rattle.std.proofs.Common.{arith}
use Rattle.jsonb_codec.proofs.WellFormed.{IsTree-Doc}
use Rattle.jsonb.proofs.text.text_for.Goals as goal

pub returns-in_err-with_capacity-clause-tree : goal.returns-in_err-with_capacity-clause-tree
returns-in_err-with_capacity-clause-tree c t =
    IsTree-Doc c.args.bytes.now t (λ i. omega (arith, c.type_inv.bytes i))

pub returns-clause-tree : goal.returns-clause-tree
returns-clause-tree c t =
    IsTree-Doc c.args.bytes.now t (λ i. omega (arith, c.type_inv.bytes i))
