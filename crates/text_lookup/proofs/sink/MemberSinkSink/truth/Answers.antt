use Rattle.text_lookup.proofs.SinkLaws.{truth_taken}
use Rattle.text_lookup.proofs.sink.MemberSinkSink.truth.Goals as goal

pub returns-clause-ok : goal.returns-clause-ok
returns-clause-ok c = truth_taken c.args.self.now _ c.args.truth c.take.ensures
