use Rattle.std.proofs.Common.{ℕ, ◌<◌, ◌≤◌, ◌^◌, length, get_or}
use Rattle.jsonb_comparable.specs.Escaped.{escaped}
use Rattle.jsonb_comparable.proofs.Sinks.{Going}
use Rattle.jsonb_comparable.proofs.escape.append_escaped.Given as goal

-- The rest of the bytes is left, and begins with so many that are not escaped.
abbrev pub invariant-runs : goal.invariant-runs
invariant-runs g l = record {
  going : Going g.S.Sink.room g.S.Sink.appends l.fn.sink l.sink (escaped l.fn.bytes)
      (escaped l.rest);
  within : l.plain ≤ length l.rest;
  before : (k : ℕ) → k < l.plain → 3 ≤ get_or l.rest k 0;
  at : l.plain < length l.rest → get_or l.rest l.plain 0 < 3;
  len : length l.rest < 2 ^ 64;
}

abbrev pub decreases-runs : goal.decreases-runs
decreases-runs g l = length l.rest
