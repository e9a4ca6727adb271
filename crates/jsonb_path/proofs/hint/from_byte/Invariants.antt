-- The text from the byte on is what is left from what is before it.
use Rattle.std.proofs.Common.{◌≡◌, chars, length}
use denote.Text.{Utf8}
use denote.Shadow.{shadow}
use Rattle.jsonb_path.specs.Hint.{from_byte}
use Rattle.jsonb_path.proofs.hint.from_byte.Given as goal

abbrev pub invariant-characters : goal.invariant-characters
invariant-characters l = shadow (Utf8 l.left)
    × (from_byte l.before (chars l.left) ≡ from_byte l.fn.at (chars l.fn.text))

abbrev pub decreases-characters : goal.decreases-characters
decreases-characters l = length (chars l.left)
