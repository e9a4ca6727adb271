-- The text of the characters so far.
use Rattle.std.proofs.Common.{◌≡◌, take, encode_utf8_all}
use Rattle.std.specs.Prelude.{string_bytes}
use Rattle.kohiblad_shell.proofs.escape.text_of_chars.Given as goal

abbrev pub invariant-loop-character : goal.invariant-loop-character
invariant-loop-character l =
    string_bytes l.text ≡ encode_utf8_all (take l.character-index l.characters)
