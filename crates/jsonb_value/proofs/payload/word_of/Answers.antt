use Rattle.std.proofs.Common.{refl, arith}
use Rattle.std.proofs.lemmas.Nat.{be_bytes_8}
use Rattle.jsonb_value.proofs.ShortLaws.{five_small}
use Rattle.jsonb_value.proofs.payload.word_of.Goals as goal

pub returns : goal.returns
returns c = be_bytes_8 _ c.from_be_bytes.result refl
    (five_small c.args.first c.args.second c.args.third c.args.fourth c.args.fifth (search arith)
    (search arith) (search arith) (search arith) (search arith)) c.from_be_bytes.ensures
