use Rattle.std.proofs.Common.{◌≡◌, drop}
use Rattle.std.specs.List.{list_all}
use Rattle.std.specs.Prelude.{nat_lt}
use Rattle.typed_chunk.proofs.places.all_below.Given as goal

abbrev pub invariant-loop-place : goal.invariant-loop-place
invariant-loop-place l =
    list_all (λ place. nat_lt place l.count) (drop l.place-index l.places)
    ≡ list_all (λ place. nat_lt place l.count) l.places
