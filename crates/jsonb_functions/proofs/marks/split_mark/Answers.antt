use Rattle.std.proofs.Common.{arith, get_or, ◌<◌}
use Rattle.std.proofs.lemmas.Bool.Decides.{nat_tests}
use Rattle.jsonb_functions.proofs.NameLaws.{after_mark}
use Rattle.jsonb_functions.proofs.marks.split_mark.Goals as goal

pub range_from-requires : goal.range_from-requires
range_from-requires c = λ _.
    let low : get_or c.as_bytes.result.now 0 0 < 128 =
    grind (arith, nat_tests, c.if-is_ascii.true, c.is_ascii.ensures) in
    after_mark c.args.text.now c.as_bytes.result.now c.utf8.text c.as_bytes.ensures.value
    c.in-len1-up.len_at_least low
