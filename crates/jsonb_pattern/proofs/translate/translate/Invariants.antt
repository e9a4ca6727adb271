-- What is written and what is left are all.
use Rattle.std.proofs.Common.{◌≡◌, chars, length, string_bytes}
use denote.Text.{Utf8}
use denote.Shadow.{shadow}
use Rattle.jsonb_pattern.specs.Translated.{translated, translated_on}
use Rattle.jsonb_pattern.proofs.translate.translate.Given as goal

abbrev pub invariant-characters : goal.invariant-characters
invariant-characters l = shadow (Utf8 l.left)
    × (translated_on l.flags l.scan (string_bytes l.text) (chars l.left)
    ≡ translated l.flags (chars l.source))

abbrev pub decreases-characters : goal.decreases-characters
decreases-characters l = length (chars l.left)
