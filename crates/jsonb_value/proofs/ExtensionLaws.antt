-- The order of extension values is total.
use Rattle.std.proofs.Common.{rules}
use Rattle.std.specs.Cmp.{IsTotalOrder}
use Rattle.std.specs.Cmp.Rules.{comparing}
use Rattle.jsonb_value.specs.Order.{extension_cmp}

pub extension_cmp_total : IsTotalOrder extension_cmp
extension_cmp_total = search (comparing, rules) depth 9
