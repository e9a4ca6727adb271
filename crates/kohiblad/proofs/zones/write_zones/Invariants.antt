use Rattle.kohiblad.proofs.ZoneWriting.{ZonesSoFar}
use Rattle.kohiblad.proofs.zones.write_zones.Given as goal

abbrev pub invariant-loop-index : goal.invariant-loop-index
invariant-loop-index g l =
    ZonesSoFar g.Z.Limit.Ord.cmp g.Z.ZoneStruct.written l.block_rows l.values l.states l.index
    l.fn.out l.out
