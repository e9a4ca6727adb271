use Rattle.std.proofs.Common.{sym, ap, ◌∙◌, arith}
use lib.Count.{count_trailing_zeros}
use Rattle.jsonb_value.proofs.BlankLaws.{blanks_through, blanks_stop}
use Rattle.jsonb_value.proofs.runs.blank_run_len.Goals as goal

pub returns-then-others-ne0 : goal.returns-then-others-ne0
returns-then-others-ne0 c =
    let others = c.not_blank_lanes-others in
    let run = blanks_stop _ c.vectors.at 16 (omega arith) (omega arith)
    (omega (arith, others.ensures)) ∙ ap (count_trailing_zeros 64) (sym others.ensures) in
    omega (arith, run, c.vectors.invariant.1)

pub vectors-preserved : goal.vectors-preserved
vectors-preserved c =
    grind (arith, blanks_through)
