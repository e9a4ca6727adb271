use Rattle.std.proofs.Common.{◌≡◌, ◌+◌}
use Rattle.jsonb.specs.Parts.{part_start}
use Rattle.jsonb.proofs.lookup.skip_parts.Given as goal

abbrev pub invariant-loop-number : goal.invariant-loop-number
invariant-loop-number l = record {
  place : l.place ≡ part_start l.bytes l.count l.number;
  cost : l.reads + l.fn.from.pair + 1 ≡ l.initial.reads + l.number;
}
