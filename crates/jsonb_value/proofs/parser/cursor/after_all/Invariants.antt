use Rattle.std.proofs.Common.{◌≡◌, drop, chars}
use denote.Text.{Utf8}
use denote.Shadow.{shadow}
use Rattle.jsonb_value.specs.Reader.Reading.{expect_all}
use Rattle.jsonb_value.proofs.parser.cursor.after_all.Given as goal

-- the result depends on the characters still expected
abbrev pub invariant-loop-character : goal.invariant-loop-character
invariant-loop-character l = shadow (Utf8 l.rest)
    × (expect_all (drop l.character-index l.expected) (chars l.rest)
    ≡ expect_all l.expected (chars l.fn.text))
