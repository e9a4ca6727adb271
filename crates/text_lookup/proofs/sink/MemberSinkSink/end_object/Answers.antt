use Rattle.std.proofs.Common.{arith}
use Rattle.text_lookup.proofs.SinkLaws.{object_ended}
use Rattle.text_lookup.proofs.sink.MemberSinkSink.end_object.Goals as goal

pub rise-requires : goal.rise-requires
rise-requires c = let (front, (cs, h)) = c.requires in let far = h.0 in omega arith

pub returns-clause-ok : goal.returns-clause-ok
returns-clause-ok c =
    object_ended c.args.self.now c.rise.new.self _ c.rise.ensures c.take.ensures
