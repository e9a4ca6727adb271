-- The characters so far and those left are the whole name.
use Rattle.std.proofs.Common.{◌≡◌, chars, length}
use Rattle.std.specs.Prelude.{string_bytes}
use denote.Text.{Utf8}
use denote.Shadow.{shadow}
use Rattle.jsonb_path.specs.Token.{content_of}
use Rattle.jsonb_path.proofs.token.read_content.Given as goal

abbrev pub invariant-characters : goal.invariant-characters
invariant-characters l = shadow (Utf8 l.left)
    × (content_of l.ending (string_bytes l.content) (chars l.left)
    ≡ content_of l.ending (string_bytes l.initial.content) (chars l.fn.text))

abbrev pub decreases-characters : goal.decreases-characters
decreases-characters l = length (chars l.left)
