use Rattle.jsonb_functions.specs.PathText.{is_in_word}
use Rattle.jsonb_functions.proofs.PathTextLaws.{front_boundary, front_all, back_stop, word_low}
use Rattle.jsonb_functions.proofs.path_text.split_word.Goals as goal

pub range-requires-clause-end_boundary : goal.range-requires-clause-end_boundary
range-requires-clause-end_boundary c =
    front_boundary is_in_word word_low c.args.text.now c.word_len-end.result c.word_len-end.ensures

pub range_from-requires : goal.range_from-requires
range_from-requires c = λ _.
    front_boundary is_in_word word_low c.args.text.now c.word_len-end.result c.word_len-end.ensures

pub returns-clause-word : goal.returns-clause-word
returns-clause-word c =
    front_all is_in_word c.args.text.now c.range.result.now c.word_len-end.result
    c.word_len-end.ensures c.range.ensures.value

pub returns-clause-rest : goal.returns-clause-rest
returns-clause-rest c =
    back_stop is_in_word c.args.text.now c.range_from.result.now c.word_len-end.result
    c.word_len-end.ensures c.range_from.ensures.value
