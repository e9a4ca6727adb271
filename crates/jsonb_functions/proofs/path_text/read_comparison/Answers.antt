use Rattle.jsonb_functions.proofs.FilterTextLaws.{comparison_read, other_comparison}
use Rattle.jsonb_functions.proofs.path_text.read_comparison.Goals as goal

pub returns-in-Some-comparison_in : goal.returns-in-Some-comparison_in
returns-in-Some-comparison_in c =
    comparison_read c.args.text.now c.in-Some.word.now c.in-Some.rest
    c.in-Some-comparison_in.comparison c.in-Some.ensures.0 c.in-Some.ensures.1
    c.in-Some-comparison_in.ensures

pub returns-in-None-comparison_in : goal.returns-in-None-comparison_in
returns-in-None-comparison_in c =
    other_comparison c.args.text.now c.in-Some.word.now c.in-Some.rest.now c.in-Some.ensures.0
    c.in-Some.ensures.1 c.in-None-comparison_in.ensures
