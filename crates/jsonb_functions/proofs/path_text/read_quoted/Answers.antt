use Rattle.jsonb_functions.proofs.PathStepLaws.{quoted_read, quoted_none}
use Rattle.jsonb_functions.proofs.path_text.read_quoted.Goals as goal

pub returns-in-Some : goal.returns-in-Some
returns-in-Some c =
    quoted_read c.args.in_filter c.args.text.now c.in-Some.name c.in-Some.rest c.in-Some.ensures.0
    c.in-Some.ensures.1

pub returns-in-None : goal.returns-in-None
returns-in-None c = quoted_none c.args.in_filter c.args.text.now c.in-None.ensures
