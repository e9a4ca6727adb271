use Rattle.std.proofs.Common.{◌-◌}
use Rattle.jsonb_codec.specs.Ascii.{IsAsciiWithin}
use Rattle.jsonb_codec.proofs.ascii.is_ascii_long.Given as goal

abbrev pub invariant-vectors : goal.invariant-vectors
invariant-vectors l = IsAsciiWithin l.bytes 0 l.at

abbrev pub decreases-vectors : goal.decreases-vectors
decreases-vectors l = l.last - l.at
