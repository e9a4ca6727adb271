use Rattle.std.proofs.Common.{rules}
use Rattle.text_lookup.proofs.SinkLaws.{number_taken}
use Rattle.text_lookup.proofs.sink.MemberSinkSink.number.Goals as goal

pub returns-clause-ok : goal.returns-clause-ok
returns-clause-ok c =
    number_taken c.args.self.now _ c.args.value (search rules) c.take.ensures
