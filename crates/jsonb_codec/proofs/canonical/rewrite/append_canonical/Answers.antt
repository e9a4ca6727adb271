use Rattle.std.proofs.Common.{arith}
use Rattle.std.proofs.lemmas.Result.{on_ok_weaker}
use Rattle.jsonb_codec.proofs.WellFormed.{IsTree-Doc}
use Rattle.jsonb_codec.proofs.canonical.rewrite.append_canonical.Goals as goal

-- What holds of the checked document holds of its bytes.

pub returns-clause-appended : goal.returns-clause-appended
returns-clause-appended c =
    rw c.in-Some.ensures.bytes at c.append_canonical_document.ensures.appended

pub returns-clause-tree : goal.returns-clause-tree
returns-clause-tree c = on_ok_weaker c.append_canonical_document.result
    (λ _ t h. IsTree-Doc c.args.bytes.now t (λ i. omega (arith, c.type_inv.bytes i)) h)
    c.append_canonical_document.ensures.appended

pub returns-clause-limits : goal.returns-clause-limits
returns-clause-limits c =
    rw c.in-Some.ensures.bytes at c.append_canonical_document.ensures.limits
