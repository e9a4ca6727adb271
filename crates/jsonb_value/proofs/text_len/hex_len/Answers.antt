use Rattle.std.proofs.Common.{◌≡◌, ◌+◌, ℕ, List, [], ◌∷◌, length, refl, arith}
use Rattle.jsonb_value.specs.Text.{hex_text}
use Rattle.jsonb_value.proofs.text_len.hex_len.Goals as goal

-- two digits for each byte
length-hex_text : (bytes : List ℕ) → length (hex_text bytes) ≡ length bytes + length bytes
length-hex_text [] = refl
length-hex_text (b ∷ bytes) = omega (arith, length-hex_text bytes)

pub returns : goal.returns
returns c = omega (arith, c.saturating_add.ensures, length-hex_text c.args.bytes.now)
