use Rattle.jsonb_codec.proofs.PartLaws.{split_member}
use Rattle.jsonb_codec.proofs.canonical.rewrite.PartSource.split_member.Goals as goal

pub returns-clause-split : goal.returns-clause-split
returns-clause-split c ss h =
    let member = c.in_ok-key.field-0 in
    split_member member.value c.args.members member.later _ c.of_text.ensures.code
    c.in_ok-key.ensures.first ss h
