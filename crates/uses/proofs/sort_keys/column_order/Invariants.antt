use Rattle.std.proofs.Common.{◌≡◌, map, take}
use Rattle.std.specs.List.{All}
use Rattle.jsonb.specs.SortKey.{sort_bytes}
use Rattle.jsonb.proofs.SortLaws.{MeansItsBytes}
use Rattle.uses.proofs.sort_keys.column_order.Given as goal

abbrev pub invariant-loop-bytes : goal.invariant-loop-bytes
invariant-loop-bytes l = record {
  bytes : map sort_bytes l.keys.items ≡ map (λ b. b.now) (take l.bytes-index l.column);
  mean : All MeansItsBytes l.keys.items;
}
