use Rattle.std.proofs.Common.{◌≡◌, ◌++◌, map, take, drop}
use Rattle.jsonb.specs.Raw.{raw_bytes}
use Rattle.jsonb.specs.SortKey.{sort_bytes}
use Rattle.jsonb.proofs.sorting.put_views.Given as goal

abbrev pub invariant-loop-number : goal.invariant-loop-number
invariant-loop-number l = map raw_bytes l.views
    ≡ map sort_bytes (take l.number l.keys) ++ drop l.number (map raw_bytes l.fn.views)
