use Rattle.std.proofs.Common.{map}
use Rattle.std.specs.List.{IsDistinct}
use Rattle.std.specs.Map.{keys_of}
use Rattle.std.specs.Prelude.{IsSome}
use Rattle.std.specs.Str.{bytes_eq}
use Rattle.jsonb_codec.specs.Stored.{code_of_some}
use Rattle.jsonb.specs.Building.{in_order}
use Rattle.jsonb.specs.Children.{AreShownAt}
use Rattle.jsonb.specs.Results.{input_pair, raw_pairs}
use Rattle.jsonb.proofs.owned.OwnedJsonb.build_object.Given as goal

-- The inputs so far were inserted, and their keys are distinct.
abbrev pub invariant-loop-key : goal.invariant-loop-key
invariant-loop-key g l = record {
  shown : AreShownAt IsSome code_of_some l.pairs.entries
      (raw_pairs (in_order (map input_pair l.yielded)));
  distinct : IsDistinct bytes_eq (keys_of (map input_pair l.yielded));
}
