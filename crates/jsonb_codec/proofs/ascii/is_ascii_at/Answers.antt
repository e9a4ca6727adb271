use Rattle.jsonb_codec.proofs.AsciiLaws.{ascii_by_mask}
use Rattle.jsonb_codec.proofs.ascii.is_ascii_at.Goals as goal

pub returns : goal.returns
returns g c =
    ascii_by_mask c.args.bytes.now c.args.at g.row.N c.requires.within c.requires.few
