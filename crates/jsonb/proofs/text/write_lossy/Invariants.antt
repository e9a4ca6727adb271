use Rattle.std.proofs.Common.{◌≡◌, ◌++◌, ℕ, List, encode_utf8_all}
use Rattle.std.specs.Fmt.{IsFlush, HasWrittenStyled}
use Rattle.jsonb.specs.Texts.{lossy_text}
use Rattle.jsonb.proofs.text.write_lossy.Given as goal

-- what is written so far, followed by the remaining characters
abbrev pub invariant-chars : goal.invariant-chars
invariant-chars g l =
    (done : List ℕ)
    × (done ++ encode_utf8_all l.char-iterator ≡ lossy_text l.fn.bytes)
    × (IsFlush l.fn.f → HasWrittenStyled g.W.Write.write_str_gives l.fn.f done l.f)
