use Rattle.jsonb_codec.proofs.PartLaws.{split_item}
use Rattle.jsonb_codec.proofs.canonical.rewrite.PartSource.split_item.Goals as goal

pub returns-clause-split : goal.returns-clause-split
returns-clause-split c ss h =
    split_item c.in_ok-part.field-0.part c.args.items c.in_ok-part.field-0.later
    c.in_ok-part.ensures.first ss h
