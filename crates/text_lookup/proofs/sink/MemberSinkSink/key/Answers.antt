use Rattle.std.proofs.Common.{rules}
use Rattle.std.specs.Prelude.{IsUtf8}
use Rattle.text_lookup.proofs.SinkLaws.{key_met}
use Rattle.text_lookup.proofs.sink.MemberSinkSink.key.Goals as goal

pub returns-clause-ok : goal.returns-clause-ok
returns-clause-ok c =
    let utf8 : IsUtf8 c.args.content.now = search rules in
    key_met c.args.self.now _ c.args.content.now c.meet.ensures utf8
