use Rattle.jsonb_functions.proofs.PathTextLaws.{name_boundary, name_split}
use Rattle.jsonb_functions.proofs.path_text.split_name.Goals as goal

pub range-requires-clause-end_boundary : goal.range-requires-clause-end_boundary
range-requires-clause-end_boundary c =
    name_boundary c.args.in_filter c.args.text.now c.name_len-end.result c.name_len-end.ensures

pub range_from-requires : goal.range_from-requires
range_from-requires c = λ _.
    name_boundary c.args.in_filter c.args.text.now c.name_len-end.result c.name_len-end.ensures

pub returns-clause-name : goal.returns-clause-name
returns-clause-name c =
    (name_split c.args.in_filter c.args.text.now c.range.result.now c.range_from.result.now
    c.name_len-end.result c.name_len-end.ensures c.range.ensures.value
    c.range_from.ensures.value).0

pub returns-clause-last : goal.returns-clause-last
returns-clause-last c =
    (name_split c.args.in_filter c.args.text.now c.range.result.now c.range_from.result.now
    c.name_len-end.result c.name_len-end.ensures c.range.ensures.value
    c.range_from.ensures.value).1

pub returns-clause-rest : goal.returns-clause-rest
returns-clause-rest c =
    (name_split c.args.in_filter c.args.text.now c.range.result.now c.range_from.result.now
    c.name_len-end.result c.name_len-end.ensures c.range.ensures.value
    c.range_from.ensures.value).2
