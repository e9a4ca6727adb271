-- The tokens so far and those of what is left are all.
use Rattle.std.proofs.Common.{◌≡◌, chars, length, map}
use denote.Text.{Utf8}
use denote.Shadow.{shadow}
use Rattle.jsonb_path.specs.Character.{byte_len}
use Rattle.jsonb_path.specs.Token.{placed_of, tokens_after, tokens_of}
use Rattle.jsonb_path.proofs.token.tokens.Given as goal

abbrev pub invariant-tokens : goal.invariant-tokens
invariant-tokens l = shadow (Utf8 l.left)
    × (tokens_after (byte_len (chars l.fn.text)) (map placed_of l.tokens.items) (chars l.left)
    ≡ tokens_of (chars l.fn.text))

abbrev pub decreases-tokens : goal.decreases-tokens
decreases-tokens l = length (chars l.left)
