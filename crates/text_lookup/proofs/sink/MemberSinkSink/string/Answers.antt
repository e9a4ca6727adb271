use Rattle.std.proofs.Common.{refl, rules}
use Rattle.std.specs.Prelude.{IsUtf8}
use Rattle.text_lookup.proofs.SinkLaws.{text_taken}
use Rattle.text_lookup.proofs.sink.MemberSinkSink.string.Goals as goal

pub returns-clause-ok : goal.returns-clause-ok
returns-clause-ok c =
    let utf8 : IsUtf8 c.args.content.now = search rules in
    text_taken c.args.self.now _ _ c.args.content.now refl utf8 c.take.ensures
