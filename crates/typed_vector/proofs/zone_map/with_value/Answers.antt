use Rattle.std.proofs.Common.{subst}
use Rattle.typed_vector.specs.ZoneMap.{IsZone}
use Rattle.typed_vector.proofs.zone_map.with_value.Goals as goal

pub returns-in-Some : goal.returns-in-Some
returns-in-Some g c = λ items zone.
    c.add.ensures items (subst (IsZone g.T.Ord.cmp items) c.in-Some.is zone)
