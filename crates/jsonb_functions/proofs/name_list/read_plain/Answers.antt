use Rattle.jsonb_functions.specs.NameList.{is_plain_byte}
use Rattle.jsonb_functions.proofs.NameLaws.{run_boundary}
use Rattle.jsonb_functions.proofs.NameListLaws.{ends_plain}
use Rattle.jsonb_functions.proofs.name_list.read_plain.Goals as goal

pub range-name-requires-clause-end_boundary : goal.range-name-requires-clause-end_boundary
range-name-requires-clause-end_boundary c =
    run_boundary is_plain_byte ends_plain c.args.text.now c.plain_len-end.result
    c.plain_len-end.ensures

pub range_from-requires : goal.range_from-requires
range_from-requires c = λ _.
    run_boundary is_plain_byte ends_plain c.args.text.now c.plain_len-end.result
    c.plain_len-end.ensures
