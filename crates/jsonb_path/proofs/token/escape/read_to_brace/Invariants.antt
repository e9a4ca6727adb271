-- The digits so far and those left are all.
use Rattle.std.proofs.Common.{◌≡◌, ◌≤◌, chars, length}
use denote.Text.{Utf8}
use denote.Shadow.{shadow}
use Rattle.jsonb_path.specs.Escape.{braced_after}
use Rattle.jsonb_path.proofs.token.escape.read_to_brace.Given as goal

abbrev pub invariant-digits : goal.invariant-digits
invariant-digits l = shadow (Utf8 l.left) × (l.point ≤ 0x10ffff)
    × (braced_after l.point (chars l.left) ≡ braced_after 0 (chars l.fn.text))

abbrev pub decreases-digits : goal.decreases-digits
decreases-digits l = length (chars l.left)
