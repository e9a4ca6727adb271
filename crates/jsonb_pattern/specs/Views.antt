-- A compiled pattern as it is written.
use Rattle.std.specs.Prelude.{string_bytes}
use Rattle.jsonb_pattern.specs.declared.pattern.Pattern.{Pattern}
use Rattle.jsonb_pattern.specs.Meaning.{Written}

abbrev pub written_of : Pattern → Written
written_of p = record { source = string_bytes p.source; flags = p.flags }
