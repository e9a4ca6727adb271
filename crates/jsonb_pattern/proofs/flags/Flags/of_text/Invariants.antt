-- The flags so far and those of the letters left are all.
use Rattle.std.proofs.Common.{◌≡◌, chars, length}
use denote.Text.{Utf8}
use denote.Shadow.{shadow}
use Rattle.jsonb_pattern.specs.Flags.{flags_of, no_flags}
use Rattle.jsonb_pattern.proofs.flags.Flags.of_text.Given as goal

abbrev pub invariant-letters : goal.invariant-letters
invariant-letters l = shadow (Utf8 l.left)
    × (flags_of l.flags (chars l.left) ≡ flags_of no_flags (chars l.fn.text))

abbrev pub decreases-letters : goal.decreases-letters
decreases-letters l = length (chars l.left)
