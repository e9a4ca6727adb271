use Rattle.std.proofs.Common.{◌+◌, ◌*◌, ◌^◌, ◌≤◌, length}
use Rattle.jsonb.proofs.PayloadEnds.{EndsBy}
use Rattle.jsonb.proofs.entries.payloads_end_within.Given as goal

abbrev pub invariant-loop-entry : goal.invariant-loop-entry
invariant-loop-entry l = record {
  by : EndsBy l.bytes l.count l.word l.start l.words l.end;
  near : l.end + 2 ^ 30 * length l.words ≤ l.start + 2 ^ 32 * l.count;
}

abbrev pub decreases-loop-entry : goal.decreases-loop-entry
decreases-loop-entry l = length l.words
