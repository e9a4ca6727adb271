use Rattle.std.proofs.Common.{◌≡◌, ℕ, List, ◌++◌, length, flat_map}
use denote.Text.{Utf8}
use denote.Shadow.{shadow}
use Rattle.std.specs.Fmt.{IsFlush, HasWrittenStyled}
use Rattle.jsonb_value.specs.Text.{byte_text}
use Rattle.jsonb_value.proofs.text.write_runs.Given as goal

abbrev pub invariant-runs : goal.invariant-runs
invariant-runs g l =
    shadow (Utf8 l.rest)
    × (done : List ℕ) × (done ++ flat_map byte_text l.rest ≡ flat_map byte_text l.fn.text)
    × (IsFlush l.fn.f → HasWrittenStyled g.W.Write.write_str_gives l.fn.f done l.f)

abbrev pub decreases-runs : goal.decreases-runs
decreases-runs g l = length l.rest
