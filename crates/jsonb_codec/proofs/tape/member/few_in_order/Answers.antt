use Rattle.std.proofs.Common.{sym, ap, subst, ◌∙◌, [], arith, get_or, take}
use Rattle.std.proofs.lemmas.List.{take_all}
use Rattle.jsonb_value.specs.Json.Syntax.{insert_all}
use Rattle.jsonb_codec.specs.Keys.{Picks}
use Rattle.jsonb_codec.proofs.OnTape.Closing.{as_many, at_same, member_at, no_member}
use Rattle.jsonb_codec.proofs.OnTape.KeyOrder.{inserts_last}
use Rattle.jsonb_codec.proofs.tape.member.few_in_order.Goals as goal

pub insert-requires-clause-members : goal.insert-requires-clause-members
insert-requires-clause-members c =
    let (base, (ps, (read, h))) = c.requires.members in
    (base, (ps, (read, (_, (h, c.loop-number.invariant base ps read h)))))

pub loop-number-preserved : goal.loop-number-preserved
loop-number-preserved c = λ base ps read h.
    let members = c.args.members.now in
    let number = c.loop-number.number in
    let m = get_or members number no_member in
    let at = member_at c.args.storage.now base ps members read number m h c.loop-number-test.true
    (at_same members number no_member c.loop-number-test.true) in
    subst (Picks read c.insert.new.order.items)
    (sym (ap (insert_all []) at.next ∙ inserts_last [] (take number read) at.e.0 at.e.1))
    (c.in_ok-insert.ensures.ok base ps read (insert_all [] (take number read)) at.e.0 at.e.1 h
    (c.loop-number.invariant base ps read h) (at.low, at.there))

pub returns-clause-ok : goal.returns-clause-ok
returns-clause-ok c = λ base ps read h.
    subst (λ xs. Picks read c.loop-number.order.items (insert_all [] xs))
    (take_all c.loop-number.number read (omega (
      arith,
      c.loop-number-test.false,
      as_many c.args.storage.now base ps c.args.members.now read h,
    ))) (c.loop-number.invariant base ps read h)
