use Rattle.std.proofs.Common.{refl, sym, ap, subst, ◌∙◌, ◌≡◌, ◌+◌, ◌^◌, ◌<◌, arith, get_or, false}
use Rattle.std.proofs.Common.{length}
use Rattle.std.proofs.lemmas.List.{take_all}
use Rattle.jsonb_codec.specs.declared.constants.TheConstants.{STRING_TAG}
use Rattle.jsonb_codec.specs.Keys.{IsKey, key_bytes}
use Rattle.jsonb_codec.specs.Tape.{StoresHead}
use Rattle.jsonb_codec.specs.WordBytes.{word}
use Rattle.jsonb_codec.proofs.OnTape.Closing.{KeyWordsAre, as_many, at_same, has_no_word, has_word}
use Rattle.jsonb_codec.proofs.OnTape.Closing.{head_grows, key_long, key_word_stored, member_at}
use Rattle.jsonb_codec.proofs.OnTape.Closing.{no_member, no_word, nothing_stored, part_short}
use Rattle.jsonb_codec.proofs.OnTape.Open.{grows_further, nothing_grows}
use Rattle.jsonb_codec.proofs.tape.storage.Storage.push_key_words.Goals.{then-is_none-via-then-is_none, then-is_none-via-else-is_none+then-length-gt-MAX_PAYLOAD}
use Rattle.jsonb_codec.proofs.tape.storage.Storage.push_key_words.Goals.{After-is_none}
use Rattle.jsonb_codec.proofs.tape.storage.Storage.push_key_words.Goals as goal

pub loop-member-init : goal.loop-member-init
loop-member-init c = (
  nothing_grows _,
  (
    omega arith,
    λ base ps front h. record { stored = nothing_stored _; fit = tt; sized = refl },
  ),
)

pub key_len-length-requires : goal.key_len-length-requires
key_len-length-requires c =
    let (base, (ps, (front, h))) = c.requires.members in
    let members = c.args.members.now in
    let index = c.loop-member.member-index in
    let m = get_or members index no_member in
    let at = member_at c.args.self.now base ps members front index m h c.loop-member-test.true
    (at_same members index no_member c.loop-member-test.true) in
    let same = (c.loop-member.invariant.1.1 base ps front h).stored.spelled in
    subst (λ xs. IsKey xs m.key) (ap (λ v. v.items) (sym same) ∙ sym c.deref.ensures.value)
    at.key.is_key

pub returns-then-is_none-clause-ok : goal.returns-then-is_none-clause-ok
returns-then-is_none-clause-ok c = λ base ps front h fit.
    let old = c.args.self.now in
    let members = c.args.members.now in
    let index = c.loop-member.member-index in
    let m = get_or members index no_member in
    let low = c.loop-member-test.true in
    let is = at_same members index no_member low in
    elim c.then-is_none.branch [
      | then-is_none-via-then-is_none w ↦
          no_word old base ps members front index m h low is
          (has_no_word m.word c.is_none.result c.is_none.ensures w.if-is_none.true) fit
      | then-is_none-via-else-is_none+then-length-gt-MAX_PAYLOAD w ↦
          let same = (c.loop-member.invariant.1.1 base ps front h).stored.spelled in
          let measured : c.key_len-length.result ≡ length (key_bytes old.spelled.items m.key) =
          c.key_len-length.ensures ∙ ap (λ xs. length (key_bytes xs m.key))
          (c.deref.ensures.value ∙ ap (λ v. v.items) same) in
          key_long old base ps members front index m h low is
          (omega (arith, measured, w.if-length-gt-MAX_PAYLOAD.true)) fit
    ]

-- the payload of a member that fits is short
short : (c : After-is_none) → c.is_none.result ≡ false
    → (get_or c.args.members.now c.loop-member.member-index no_member).part.size < 2 ^ 28
short c on =
    let (base, (ps, (front, h))) = c.requires.members in
    let members = c.args.members.now in
    let index = c.loop-member.member-index in
    let m = get_or members index no_member in
    let low = c.loop-member-test.true in
    let some = has_word m.word c.is_none.result c.is_none.ensures on in
    part_short c.args.self.now base ps members front index some.0 m h low
    (at_same members index no_member low) some.1

pub overflow_add-size : goal.overflow_add-size
overflow_add-size c = omega (
  arith,
  short (goal.at.overflow_add-size c).After-is_none c.if-is_none.false,
  c.if-length-gt-MAX_PAYLOAD.false,
)

pub overflow_add-size-in-loop-member : goal.overflow_add-size-in-loop-member
overflow_add-size-in-loop-member c = omega (
  arith,
  short (goal.at.overflow_add-size-in-loop-member c).After-is_none c.if-is_none.false,
  c.if-length-gt-MAX_PAYLOAD.false,
  c.loop-member.invariant.1.0,
  c.loop-member-test.true,
  c.requires.few,
)

pub loop-member-preserved : goal.loop-member-preserved
loop-member-preserved c =
    let old = c.args.self.now in
    let mid = c.loop-member.self in
    let new = c.push_word.new.self in
    let members = c.args.members.now in
    let index = c.loop-member.member-index in
    let m = get_or members index no_member in
    let low = c.loop-member-test.true in
    let is = at_same members index no_member low in
    let some = has_word m.word c.is_none.result c.is_none.ensures c.if-is_none.false in
    let size = c.key_len-length.result in
    let measured : size ≡ length (key_bytes mid.spelled.items m.key) =
    c.key_len-length.ensures ∙ ap (λ xs. length (key_bytes xs m.key)) c.deref.ensures.value in
    let stored : StoresHead mid new (word (STRING_TAG + size)) =
    rw c.tagged_word.ensures at c.in_ok-push_word.ensures.ok in (
      grows_further old mid new c.loop-member.invariant.0 (head_grows mid new _ stored),
      (
        omega (
          arith,
          short (goal.at.loop-member-preserved c).After-is_none c.if-is_none.false,
          c.if-length-gt-MAX_PAYLOAD.false,
          c.loop-member.invariant.1.0,
        ),
        λ base ps front h. key_word_stored old mid new base ps members front index some.0
            c.loop-member.size _ size m h low is some.1 (c.loop-member.invariant.1.1 base ps front
            h)
            stored measured (omega (arith, c.if-length-gt-MAX_PAYLOAD.false)) refl,
      ),
    )

pub returns-clause-ok : goal.returns-clause-ok
returns-clause-ok c = λ base ps front h.
    let index = c.loop-member.member-index in
    let all = subst (KeyWordsAre c.args.self.now c.loop-member.self c.loop-member.size)
    (take_all index front (omega (
      arith,
      c.loop-member-test.false,
      as_many c.args.self.now base ps c.args.members.now front h,
    ))) (c.loop-member.invariant.1.1 base ps front h) in
    (all.stored, (all.fit, all.sized))
