use Rattle.std.proofs.Common.{◌<◌, ◌++◌, ◌∙◌, length, sym, ap, arith, encode_utf8}
use Rattle.kohiblad_shell.proofs.EscapeLaws.{text_more}
use Rattle.kohiblad_shell.proofs.escape.text_of_chars.Goals as goal

pub loop-character-preserved : goal.loop-character-preserved
loop-character-preserved c =
    let low : c.loop-character.character-index < length c.args.characters.now = omega arith in
    c.in_ok-push.ensures.bytes
    ∙ ap (λ b. b ++ encode_utf8 c.character-item.result) c.loop-character.invariant
    ∙ sym (text_more c.args.characters.now c.loop-character.character-index c.character-item.result
    low c.character-item.is)
