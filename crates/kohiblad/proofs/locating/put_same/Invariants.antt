use Rattle.std.proofs.Common.{◌≡◌, ℕ, List, Bor, drop}
use Rattle.kohiblad.proofs.LocatingLaws.{PutSoFar}
use Rattle.kohiblad.proofs.locating.put_same.Given as goal

abbrev pub invariant-loop : goal.invariant-loop
invariant-loop l =
    PutSoFar (λ (name : Bor (List ℕ)) one. one ≡ l.place) l.names (drop l.index l.names) l.at
    l.number l.fn.places l.places
