use Rattle.std.proofs.Common.{rules, sym, ap, subst, ◌∙◌, ◌≡◌, [], arith, get_or}
use Rattle.std.proofs.lemmas.List.{take_all}
use Rattle.jsonb_value.specs.Json.Syntax.{insert_all}
use Rattle.jsonb_codec.specs.Keys.{AreNumbered, IsKey, key_bytes}
use Rattle.jsonb_codec.proofs.OnTape.Closing.{as_many, at_same, member_at, no_member}
use Rattle.jsonb_codec.proofs.OnTape.Ordering.{number_added}
use Rattle.jsonb_codec.proofs.tape.member.by_key.Goals as goal

pub bytes_of-requires : goal.bytes_of-requires
bytes_of-requires c =
    let (base, (ps, (read, h))) = c.requires in
    let members = c.args.members.now in
    let number = c.loop-number.number in
    let m = get_or members number no_member in
    let at = member_at c.args.storage.now base ps members read number m h c.loop-number-test.true
    (at_same members number no_member c.loop-number-test.true) in
    subst (λ xs. IsKey xs m.key) (sym c.deref.ensures.value) at.key.is_key

pub loop-number-preserved : goal.loop-number-preserved
loop-number-preserved c = λ base ps read h.
    let members = c.args.members.now in
    let number = c.loop-number.number in
    let m = get_or members number no_member in
    let at = member_at c.args.storage.now base ps members read number m h c.loop-number-test.true
    (at_same members number no_member c.loop-number-test.true) in
    let copied : c.extend_from_slice.new.self.items ≡ c.bytes_of.result.now = search rules in
    number_added read c.loop-number.found.entries c.insert.new.self.entries number
    c.extend_from_slice.new.self at.e (c.loop-number.invariant base ps read h)
    c.in_ok-insert.ensures.entries
    (copied ∙ c.bytes_of.ensures ∙ ap (λ xs. key_bytes xs m.key) c.deref.ensures.value
    ∙ at.key.same)
    at.low at.there at.next

pub returns-clause-ok : goal.returns-clause-ok
returns-clause-ok c = λ base ps read h.
    subst (λ xs. AreNumbered read c.loop-number.found.entries (insert_all [] xs))
    (take_all c.loop-number.number read (omega (
      arith,
      c.loop-number-test.false,
      as_many c.args.storage.now base ps c.args.members.now read h,
    ))) (c.loop-number.invariant base ps read h)
