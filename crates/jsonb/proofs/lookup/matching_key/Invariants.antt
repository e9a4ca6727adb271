use Rattle.std.proofs.Common.{◌≡◌, ◌+◌, length}
use Rattle.std.specs.Fn.{FnReturnsAtPair}
use Rattle.jsonb.specs.Parts.{part_start, PassedBefore}
use Rattle.jsonb.proofs.lookup.matching_key.Given as goal

abbrev pub invariant-loop-pair : goal.invariant-loop-pair
invariant-loop-pair g l = record {
  start : l.start ≡ part_start l.bytes l.count l.pair;
  cost : l.reads ≡ l.initial.reads + l.pair;
  passed : PassedBefore
      (FnReturnsAtPair g.F.Fn l.eq_func l.name)
      (length l.name) l.bytes l.count l.pair;
}
