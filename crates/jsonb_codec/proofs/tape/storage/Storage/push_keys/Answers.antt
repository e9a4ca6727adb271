use Rattle.std.proofs.Common.{rules, refl, sym, ap, subst, ◌∙◌, ◌≡◌, arith, get_or}
use Rattle.std.proofs.lemmas.List.{take_all}
use Rattle.byteorder.specs.Endian.{big_number}
use Rattle.jsonb_value.specs.Json.Syntax.{pairs}
use Rattle.jsonb_codec.specs.Canon.{pairs_shapes}
use Rattle.jsonb_codec.specs.Keys.{IsKey, key_bytes}
use Rattle.jsonb_codec.specs.Shape.{key_payloads}
use Rattle.jsonb_codec.specs.Tape.{StoresHead}
use Rattle.jsonb_codec.specs.declared.tape.storage.Storage.{Storage}
use Rattle.jsonb_codec.proofs.OnTape.Closing.{as_many, at_same, head_grows, key_stored, member_at}
use Rattle.jsonb_codec.proofs.OnTape.Closing.{no_member, nothing_stored}
use Rattle.jsonb_codec.proofs.OnTape.Open.{grows_further, nothing_grows}
use Rattle.jsonb_codec.proofs.tape.storage.Storage.push_keys.Goals as goal

pub loop-member-init : goal.loop-member-init
loop-member-init c = (nothing_grows _, λ base ps front h. nothing_stored _)

pub loop-member-preserved : goal.loop-member-preserved
loop-member-preserved c =
    let old = c.args.self.now in
    let mid = c.loop-member.self in
    let new : Storage = record mid { heads = c.append_key.new.buf } in
    let members = c.args.members.now in
    let index = c.loop-member.member-index in
    let m = get_or members index no_member in
    let bytes = c.bytes_of-key.result.now in
    let key : bytes ≡ key_bytes mid.spelled.items m.key =
    c.bytes_of-key.ensures ∙ ap (λ xs. key_bytes xs m.key) c.deref.ensures.value in
    let stored : StoresHead mid new bytes = record {
      heads = search rules;
      payload = refl;
      spelled = refl;
      moved = refl;
    } in (
      grows_further old mid new c.loop-member.invariant.0 (head_grows mid new bytes stored),
      λ base ps front h. key_stored old mid new base ps members front index m bytes h
          c.loop-member-test.true (at_same members index no_member c.loop-member-test.true)
          (c.loop-member.invariant.1 base ps front h) stored key,
    )

pub bytes_of-key-requires : goal.bytes_of-key-requires
bytes_of-key-requires c =
    let (base, (ps, (front, h))) = c.requires in
    let members = c.args.members.now in
    let index = c.loop-member.member-index in
    let m = get_or members index no_member in
    let at = member_at c.args.self.now base ps members front index m h c.loop-member-test.true
    (at_same members index no_member c.loop-member-test.true) in
    let same = (c.loop-member.invariant.1 base ps front h).spelled in
    subst (λ xs. IsKey xs m.key) (ap (λ v. v.items) (sym same) ∙ sym c.deref.ensures.value)
    at.key.is_key

pub append_key-requires : goal.append_key-requires
append_key-requires c =
    let (base, (ps, (front, h))) = c.requires in
    let old = c.args.self.now in
    let members = c.args.members.now in
    let index = c.loop-member.member-index in
    let m = get_or members index no_member in
    let at = member_at old base ps members front index m h c.loop-member-test.true
    (at_same members index no_member c.loop-member-test.true) in
    let same = (c.loop-member.invariant.1 base ps front h).spelled in
    let key : c.bytes_of-key.result.now ≡ key_bytes old.spelled.items m.key =
    c.bytes_of-key.ensures ∙ ap (λ xs. key_bytes xs m.key)
    (c.deref.ensures.value ∙ ap (λ v. v.items) same) in
    at.key.number ∙ ap (big_number 8) (sym (key ∙ at.key.same))

pub returns-clause-ok : goal.returns-clause-ok
returns-clause-ok c = λ base ps front h.
    let index = c.loop-member.member-index in
    subst (λ es. StoresHead c.args.self.now c.loop-member.self (key_payloads (pairs_shapes
    (pairs es))))
    (take_all index front (omega (
      arith,
      c.loop-member-test.false,
      as_many c.args.self.now base ps c.args.members.now front h,
    ))) (c.loop-member.invariant.1 base ps front h)
