use Rattle.std.proofs.lemmas.Result.{on_ok_weaker}
use Rattle.text_lookup.proofs.SinkLaws.{object_begun}
use Rattle.text_lookup.proofs.sink.MemberSinkSink.begin_object.Goals as goal

pub returns-clause-ok : goal.returns-clause-ok
returns-clause-ok c =
    on_ok_weaker c.deepen.result
    (object_begun c.args.self.now c.open.new.self c.deepen.new.self c.open.ensures)
    c.deepen.ensures.ok
