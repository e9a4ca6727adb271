use Rattle.std.proofs.Common.{◌≡◌, refl}
use Rattle.std.specs.Prelude.{true, false}
use Rattle.jsonb.proofs.WithinLaws.{tree_within, bytes_within}
use Rattle.jsonb.proofs.sort_key.SortKey.within.Goals as goal

pub returns-in-Some-clause-meaning : goal.returns-in-Some-clause-meaning
returns-in-Some-clause-meaning c =
    rw c.in-Some.ensures.bytes
    (tree_within c.args.depth c.args.bytes.now (c.in-Some.ensures.exact.0 refl))

pub returns-in-None-clause-meaning : goal.returns-in-None-clause-meaning
returns-in-None-clause-meaning c =
    bytes_within c.args.depth c.args.bytes.now (λ found.
    let wrong : false ≡ true = c.in-None.ensures.exact.1 found in absurd (cc))
