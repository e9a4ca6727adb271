-- The structs in which C receives zones: `has_value` is 1, or 0 beside limits of 0.
use Rattle.std.specs.Prelude.{ℕ, ℤ, pos, Option, Some, None}
use Rattle.typed_vector.specs.declared.zone_map.Zone.{Zone}
use Rattle.kohiblad.specs.declared.taken_values.KohibladInt128.{KohibladInt128}
use Rattle.kohiblad.specs.declared.zone_structs.KohibladInt64Zone.{KohibladInt64Zone}
use Rattle.kohiblad.specs.declared.zone_structs.KohibladUInt64Zone.{KohibladUInt64Zone}
use Rattle.kohiblad.specs.declared.zone_structs.KohibladDecimalZone.{KohibladDecimalZone}
use Rattle.kohiblad.specs.declared.zone_structs.KohibladDateZone.{KohibladDateZone}

abbrev pub int64_zone : Option (Zone ℤ) → KohibladInt64Zone
int64_zone None = record { least = pos 0; greatest = pos 0; has_value = 0 }
int64_zone (Some zone) = record { least = zone.least; greatest = zone.greatest; has_value = 1 }

abbrev pub uint64_zone : Option (Zone ℕ) → KohibladUInt64Zone
uint64_zone None = record { least = 0; greatest = 0; has_value = 0 }
uint64_zone (Some zone) = record { least = zone.least; greatest = zone.greatest; has_value = 1 }

abbrev pub decimal_zone : Option (Zone KohibladInt128) → KohibladDecimalZone
decimal_zone None = record {
  least = record { low = 0; high = pos 0 };
  greatest = record { low = 0; high = pos 0 };
  has_value = 0;
}
decimal_zone (Some zone) =
    record { least = zone.least; greatest = zone.greatest; has_value = 1 }

abbrev pub date_zone : Option (Zone ℤ) → KohibladDateZone
date_zone None = record { least = pos 0; greatest = pos 0; has_value = 0 }
date_zone (Some zone) = record { least = zone.least; greatest = zone.greatest; has_value = 1 }
