use Rattle.jsonb.proofs.KeyOrderLaws.{key_cmp-is, key_partial_cmp-is, key_eq-is}
use Rattle.jsonb.proofs.order.key_order_laws.Goals as goal

pub returns : goal.returns
returns c = record { cmp = key_cmp-is; partial_cmp = key_partial_cmp-is; eq = key_eq-is }
