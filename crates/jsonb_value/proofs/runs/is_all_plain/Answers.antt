use Rattle.std.proofs.Common.{◌∙◌, ap, map, arith}
use Rattle.std.specs.Simd.Lanes.{mask_l}
use Rattle.jsonb_value.specs.Text.{is_escaped}
use Rattle.jsonb_value.proofs.RunLaws.{none_escaped_at_ends, none_escaped_in_run}
use Rattle.jsonb_value.proofs.runs.is_all_plain.Goals as goal

pub returns-then-len-ge8 : goal.returns-then-len-ge8
returns-then-len-ge8 c =
    let mask =
    c.escape_lanes.ensures ∙ ap (λ l. mask_l (map is_escaped l)) c.ends_of_eight.ensures in
    none_escaped_at_ends _ 8 _ (omega arith) (omega arith) mask

pub returns-then-len-ge4 : goal.returns-then-len-ge4
returns-then-len-ge4 c =
    let mask = c.escape_lanes-then-len-ge4.ensures ∙ ap
    (λ l. mask_l (map is_escaped l)) c.ends_of_four.ensures in
    none_escaped_at_ends _ 4 _ (omega arith)
    (omega arith) mask

pub returns-else-len-ge4 : goal.returns-else-len-ge4
returns-else-len-ge4 c =
    grind (arith, none_escaped_in_run)
