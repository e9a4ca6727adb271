use Rattle.std.proofs.Common.{take}
use Rattle.typed_vector.specs.ZoneMap.{IsZone, are_set, set_values}
use Rattle.typed_vector.proofs.zone_map.zone_of.Given as goal

abbrev pub invariant-loop-index : goal.invariant-loop-index
invariant-loop-index g l = IsZone g.T.Ord.cmp
    (set_values (take l.index l.values) (take l.index (are_set g.F.PartialEq.eq l.set l.flags)))
    l.zone
