-- The text begins with the word if what is left of it begins with what is left of the word.
use Rattle.std.proofs.Common.{◌≡◌, chars, length}
use denote.Text.{Utf8}
use denote.Shadow.{shadow}
use Rattle.jsonb_path.specs.Hint.{begins_word}
use Rattle.jsonb_path.proofs.hint.begins_word.Given as goal

abbrev pub invariant-letters : goal.invariant-letters
invariant-letters l = shadow (Utf8 l.wanted) × shadow (Utf8 l.left)
    × (begins_word (chars l.wanted) (chars l.left) ≡ begins_word (chars l.fn.word) (chars l.fn.text))

abbrev pub decreases-letters : goal.decreases-letters
decreases-letters l = length (chars l.wanted)
