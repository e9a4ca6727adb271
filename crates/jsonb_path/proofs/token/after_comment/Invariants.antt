-- What is left is the rest of the comment.
use Rattle.std.proofs.Common.{◌≡◌, chars, false, length}
use denote.Text.{Utf8}
use denote.Shadow.{shadow}
use Rattle.jsonb_path.specs.Token.{after_comment}
use Rattle.jsonb_path.proofs.token.after_comment.Given as goal

abbrev pub invariant-comment : goal.invariant-comment
invariant-comment l = shadow (Utf8 l.left)
    × (after_comment l.is_starred (chars l.left) ≡ after_comment false (chars l.fn.text))

abbrev pub decreases-comment : goal.decreases-comment
decreases-comment l = length (chars l.left)
