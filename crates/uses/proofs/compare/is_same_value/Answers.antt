use Rattle.std.proofs.Common.{rules}
use Rattle.jsonb.proofs.OrderLaws.{bytes_cmp-trees}
use Rattle.uses.proofs.compare.is_same_value.Goals as goal

pub returns : goal.returns
returns c = λ t u h k.
    let order = bytes_cmp-trees _ _ t u h k in
    search rules
