use Rattle.text_lookup.proofs.SinkLaws.{null_taken}
use Rattle.text_lookup.proofs.sink.MemberSinkSink.null.Goals as goal

pub returns-clause-ok : goal.returns-clause-ok
returns-clause-ok c = null_taken c.args.self.now _ c.take.ensures
