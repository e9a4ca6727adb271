-- The order that is derived for bytes that were checked once.
use Rattle.std.specs.Prelude.{Bool, Option}
use Rattle.std.specs.declared.cmp.Ordering.{Ordering}
use Rattle.jsonb.specs.declared.sort_key.SortKey.{SortKey}
use Rattle.jsonb.specs.contracts.sort_key.SortKeyOrd.TheImpl as order
use Rattle.jsonb.specs.contracts.sort_key.SortKeyPartialOrd.TheImpl as partial_order
use Rattle.jsonb.specs.contracts.sort_key.SortKeyPartialEq.TheImpl as equality

-- What the derived `cmp`, `partial_cmp` and `eq` compute.
abbrev pub key_cmp : SortKey → SortKey → Ordering
key_cmp = (order.ghosts).cmp

abbrev pub key_partial_cmp : SortKey → SortKey → Option Ordering
key_partial_cmp = (partial_order.ghosts).partial_cmp

abbrev pub key_eq : SortKey → SortKey → Bool
key_eq = (equality.ghosts).eq
