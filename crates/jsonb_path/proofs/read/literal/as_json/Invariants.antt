-- What is written, and what is left after it, are all.
use Rattle.std.proofs.Common.{◌≡◌, chars, length}
use Rattle.std.specs.Prelude.{string_bytes}
use denote.Text.{Utf8}
use denote.Shadow.{shadow}
use Rattle.jsonb_path.specs.Literal.{as_json, written_on}
use Rattle.jsonb_path.proofs.read.literal.as_json.Given as goal

abbrev pub invariant-characters : goal.invariant-characters
invariant-characters l = shadow (Utf8 l.left)
    × (written_on (string_bytes l.text) (chars l.left) ≡ as_json (chars l.fn.digits))

abbrev pub decreases-characters : goal.decreases-characters
decreases-characters l = length (chars l.left)
