use Rattle.std.proofs.Common.{map}
use Rattle.std.specs.Prelude.{IsSome}
use Rattle.jsonb_codec.specs.Stored.{code_of_some}
use Rattle.jsonb.specs.Children.{raw_view}
use Rattle.jsonb.specs.Gathering.{IsGathered}
use Rattle.jsonb.proofs.owned.OwnedJsonb.build_array.Given as goal

abbrev pub invariant-loop-input : goal.invariant-loop-input
invariant-loop-input g l = IsGathered IsSome code_of_some l.documents (map raw_view l.yielded)
