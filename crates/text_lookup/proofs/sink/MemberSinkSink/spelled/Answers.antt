use Rattle.std.proofs.Common.{refl, sym, ◌∙◌, ◌≡◌, false}
use Rattle.std.specs.declared.borrow.CowStr.TheVariants.{Borrowed, Owned}
use Rattle.jsonb_value.specs.declared.value.Value as value
use Rattle.text_lookup.specs.Sink.{is_wanted}
use Rattle.text_lookup.specs.declared.member.TextMember.TheVariants.{Scalar}
use Rattle.text_lookup.proofs.SinkLaws.{passed_by, text_taken}
use Rattle.text_lookup.proofs.sink.MemberSinkSink.spelled.Goals as goal

pub returns-in_ok-content-clause-ok : goal.returns-in_ok-content-clause-ok
returns-in_ok-content-clause-ok c =
    text_taken c.args.self.now c.take.new.self (Owned c.in_ok-content.content) c.args.content.now
    c.in_ok-content.ensures.ok c.utf8.content c.take.ensures

pub returns-else-is_wanted-clause-ok : goal.returns-else-is_wanted-clause-ok
returns-else-is_wanted-clause-ok c =
    let not : is_wanted c.args.self.now ≡ false = sym c.is_wanted.ensures ∙ c.if-is_wanted.false in
    text_taken c.args.self.now c.args.self.now (Borrowed c.args.content) c.args.content.now refl
    c.utf8.content (passed_by c.args.self.now (Scalar (value.String (Borrowed c.args.content))) not)
