use Rattle.std.proofs.lemmas.Result.{on_ok_weaker}
use Rattle.text_lookup.proofs.SinkLaws.{array_begun}
use Rattle.text_lookup.proofs.sink.MemberSinkSink.begin_array.Goals as goal

pub returns-clause-ok : goal.returns-clause-ok
returns-clause-ok c =
    on_ok_weaker c.deepen.result (array_begun c.args.self.now c.deepen.new.self) c.deepen.ensures.ok
