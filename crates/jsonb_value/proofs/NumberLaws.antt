-- The order of numbers by value is total.
use Rattle.std.specs.Cmp.{IsTotalOrder}
use Rattle.std.proofs.lemmas.Cmp.{on_total}
use Rattle.jsonb_value.specs.Order.{fraction_of, number_cmp}
use Rattle.jsonb_value.proofs.FractionLaws.{fraction_cmp_total}

pub number_cmp_total : IsTotalOrder number_cmp
number_cmp_total = on_total fraction_of fraction_cmp_total
