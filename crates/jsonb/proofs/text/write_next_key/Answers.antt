use Rattle.std.proofs.Common.{rules, refl}
use Rattle.jsonb_value.proofs.Writing.{joins_two, joins_three}
use Rattle.jsonb.proofs.text.write_next_key.Goals as goal

pub returns-in_ok-write_string-in-OnLines : goal.returns-in_ok-write_string-in-OnLines
returns-in_ok-write_string-in-OnLines g c flush ok =
    let one = c.write_str.ensures.styled flush (search rules) in
    let two = c.start_line.ensures one.flush (search rules) in
    let three = c.write_string.ensures two.flush (search rules) in
    let four = c.write_colon.ensures three.flush ok in
    let end = joins_two _ _ _ _ _ _ _ three four refl in
    joins_three _ _ _ _ _ _ _ _ _ one two end refl
