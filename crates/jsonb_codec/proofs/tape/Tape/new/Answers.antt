use Rattle.std.proofs.Common.{refl, ap, length}
use Rattle.jsonb_codec.proofs.tape.Tape.new.Goals as goal

pub returns : goal.returns
returns c = (refl, (c.new-2.ensures.items, ap length c.new.ensures))
