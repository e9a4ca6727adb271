use Rattle.std.proofs.Common.{◌≡◌, ◌+◌, drop}
use Rattle.kohiblad.specs.RowWalks.{IsWalk}
use Rattle.kohiblad.proofs.LocatingLaws.{NamesSoFar}
use Rattle.kohiblad.proofs.locating.put_members.Given as goal

abbrev pub invariant-loop-name : goal.invariant-loop-name
invariant-loop-name l = record {
  walk : IsWalk l.walk;
  row : l.walk.row.now ≡ l.row;
  counted : l.number ≡ l.at + l.name-index;
  so_far : NamesSoFar l.start l.row l.names (drop l.name-index l.names) l.walk l.at l.number
      l.fn.places l.places;
}
