use Rattle.jsonb_functions.proofs.FilterTextLaws.{no_string, string_read}
use Rattle.jsonb_functions.proofs.path_text.read_string.Goals as goal

pub returns-in-Some : goal.returns-in-Some
returns-in-Some c =
    string_read c.args.text.now c.in-Some.value c.in-Some.rest c.in-Some.ensures.0
    c.in-Some.ensures.1

pub returns-in-None : goal.returns-in-None
returns-in-None c = no_string c.args.text.now c.in-None.ensures
