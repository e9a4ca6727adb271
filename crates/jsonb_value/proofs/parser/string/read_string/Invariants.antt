use Rattle.std.proofs.Common.{ℕ, ◌<◌, chars, length}
use Rattle.std.specs.Prelude.{string_bytes}
use denote.Text.{Utf8}
use denote.Shadow.{shadow}
use Rattle.jsonb_value.proofs.Json.TextSteps.{GoesOn}
use Rattle.jsonb_value.proofs.parser.string.read_string.Given as goal

-- reading continues after the characters read so far
abbrev pub invariant-pieces : goal.invariant-pieces
invariant-pieces l =
    shadow (Utf8 l.rest)
    × ((n : ℕ) → length (chars l.fn.text) < n
    → GoesOn n l.fn.front (chars l.fn.text) (string_bytes l.content) (chars l.rest))

abbrev pub decreases-pieces : goal.decreases-pieces
decreases-pieces l = length (chars l.rest)
