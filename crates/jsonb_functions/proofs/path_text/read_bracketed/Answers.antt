use Rattle.jsonb_functions.proofs.PathStepLaws.{bracketed_read, bracketed_none, place_none}
use Rattle.jsonb_functions.proofs.path_text.read_bracketed.Goals as goal

pub returns-in-Some-2 : goal.returns-in-Some-2
returns-in-Some-2 c =
    bracketed_read c.args.in_filter c.args.text.now c.in-Some.place.now c.in-Some.rest
    c.in-Some-2.selector c.in-Some.ensures.0 c.in-Some.ensures.1
    (rw c.in-Some-2.is at c.in_ok-selector-in-Some.ensures)

pub returns-in-None-2 : goal.returns-in-None-2
returns-in-None-2 c =
    place_none c.args.in_filter c.args.text.now c.in-Some.place.now c.in-Some.rest.now
    c.in-Some.ensures.0 c.in-Some.ensures.1
    (rw c.in-None-2.is at c.in_ok-selector-in-Some.ensures)

pub returns-in-None : goal.returns-in-None
returns-in-None c =
    bracketed_none c.args.in_filter c.args.text.now c.in-None.ensures
