use Rattle.std.proofs.Common.{take}
use Rattle.std.specs.Fmt.{IsFlush, HasWrittenStyled}
use Rattle.jsonb_value.specs.Text.{hex_text}
use Rattle.jsonb_value.proofs.text.write_hex.Given as goal

abbrev pub invariant-bytes : goal.invariant-bytes
invariant-bytes g l = IsFlush l.fn.f
    → HasWrittenStyled g.W.Write.write_str_gives l.fn.f (hex_text (take l.byte-index l.bytes)) l.f
