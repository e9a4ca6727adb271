use Rattle.std.proofs.Common.{◌≡◌, ◌+◌, ◌-◌, ◌≤◌, length, drop}
use Rattle.std.specs.List.{prefix_len}
use Rattle.jsonb_value.specs.Json.Characters.{is_blank}
use Rattle.jsonb_value.proofs.runs.blank_run_len.Given as goal

abbrev pub invariant-vectors : goal.invariant-vectors
invariant-vectors l = (l.at ≤ length l.bytes)
    × (prefix_len is_blank l.bytes ≡ l.at + prefix_len is_blank (drop l.at l.bytes))

abbrev pub decreases-vectors : goal.decreases-vectors
decreases-vectors l = length l.bytes - l.at
