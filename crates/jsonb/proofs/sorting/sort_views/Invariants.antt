use Rattle.std.proofs.Common.{◌≡◌, map, take}
use Rattle.std.specs.List.{All}
use Rattle.jsonb.specs.Raw.{raw_bytes}
use Rattle.jsonb.specs.SortKey.{sort_bytes}
use Rattle.jsonb.proofs.SortLaws.{MeansItsBytes}
use Rattle.jsonb.proofs.sorting.sort_views.Given as goal

abbrev pub invariant-loop-view : goal.invariant-loop-view
invariant-loop-view l = record {
  bytes : map sort_bytes l.keys.items ≡ map raw_bytes (take l.view-index l.fn.views);
  mean : All MeansItsBytes l.keys.items;
}
