use Rattle.std.proofs.Common.{◌≡◌, ◌+◌}
use Rattle.jsonb.specs.CutKeys.{NoneOfSize}
use Rattle.jsonb.proofs.lookup.read_cut_keys.Given as goal

abbrev pub invariant-loop-pair : goal.invariant-loop-pair
invariant-loop-pair l = record {
  cost : l.reads ≡ l.initial.reads + l.pair;
  others : NoneOfSize l.size l.bytes l.count l.pair;
}
