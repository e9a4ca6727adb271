use Rattle.std.proofs.Common.{◌≡◌, ◌+◌, ◌-◌, ◌≤◌, length, drop}
use Rattle.std.specs.List.{prefix_len}
use Rattle.jsonb_value.specs.Json.Piece.{is_plain}
use Rattle.jsonb_value.proofs.runs.plain_len.Given as goal

abbrev pub invariant-vectors : goal.invariant-vectors
invariant-vectors l = (l.at ≤ length l.bytes)
    × (prefix_len is_plain l.bytes ≡ l.at + prefix_len is_plain (drop l.at l.bytes))

abbrev pub decreases-vectors : goal.decreases-vectors
decreases-vectors l = length l.bytes - l.at
