use Rattle.std.proofs.Common.{sym, ap, ◌∙◌, arith}
use lib.Count.{count_trailing_zeros}
use Rattle.jsonb_value.proofs.RunLaws.{run_through, run_stops}
use Rattle.jsonb_value.proofs.runs.plain_len.Goals as goal

pub returns-then-escaped-ne0 : goal.returns-then-escaped-ne0
returns-then-escaped-ne0 c =
    let escaped = c.escape_lanes-escaped in
    let run = run_stops _ c.vectors.at 16 (omega arith) (omega arith)
    (omega (arith, escaped.ensures)) ∙ ap (count_trailing_zeros 64) (sym escaped.ensures) in
    omega (arith, run, c.vectors.invariant.1)

pub vectors-preserved : goal.vectors-preserved
vectors-preserved c =
    grind (arith, run_through)
