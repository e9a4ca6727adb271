use Rattle.std.proofs.Common.{rules}
use Rattle.jsonb_value.proofs.Writing.{joins_three}
use Rattle.jsonb.proofs.LineLaws.{key_in_line}
use Rattle.jsonb.proofs.text.write_key_in_line.Goals as goal

pub returns : goal.returns
returns g c flush ok =
    let one = c.write_str.ensures.styled flush (search rules) in
    let two = c.write_content.ensures one.flush (search rules) in
    let three = c.write_str-2.ensures.styled two.flush ok in
    joins_three _ _ _ _ _ _ _ _ _ one two three (key_in_line c.args.key.now)
