use Rattle.std.proofs.Common.{◌≤◌, length, arith, ◌∙◌}
use Rattle.jsonb_value.specs.Meaning.{meaning_cmp}
use Rattle.jsonb.proofs.WithinLaws.{any_meaning}
use Rattle.jsonb.proofs.order.cmp_bytes.Goals as goal

pub returns : goal.returns
returns c =
    let l = c.args.left.now in
    let r = c.args.right.now in
    let d = c.max-depth.result in
    let left : length l ≤ d = omega arith in
    let right : length r ≤ d = omega arith in
    c.cmp_within.ensures
    ∙ (λ i. meaning_cmp (any_meaning l d left i) (any_meaning r d right i))
