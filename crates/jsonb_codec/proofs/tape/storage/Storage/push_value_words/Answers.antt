use Rattle.std.proofs.Common.{sym, subst, ◌+◌, arith, get_or, take}
use Rattle.std.proofs.lemmas.List.{take_all}
use Rattle.jsonb_value.specs.Json.Syntax.{pairs}
use Rattle.jsonb_codec.specs.Canon.{pairs_shapes}
use Rattle.jsonb_codec.specs.Shape.{entries}
use Rattle.jsonb_codec.specs.Tape.{Grows, StoresHead}
use Rattle.jsonb_codec.proofs.OnTape.Closing.{as_many, at_same, head_grows, no_member, no_word}
use Rattle.jsonb_codec.proofs.OnTape.Closing.{nothing_stored, value_word_stored}
use Rattle.jsonb_codec.proofs.OnTape.Open.{grows_further, nothing_grows}
use Rattle.jsonb_codec.proofs.tape.storage.Storage.push_value_words.Goals.{in-Some+in_ok-push_word, in_default}
use Rattle.jsonb_codec.proofs.tape.storage.Storage.push_value_words.Goals as goal

pub loop-member-init : goal.loop-member-init
loop-member-init c = (nothing_grows _, λ base ps front h fit. nothing_stored _)

pub loop-member-preserved : goal.loop-member-preserved
loop-member-preserved c =
    let old = c.args.self.now in
    let mid = c.loop-member.self in
    let members = c.args.members.now in
    let index = c.loop-member.member-index in
    let m = get_or members index no_member in
    let low = c.loop-member-test.true in
    let is = at_same members index no_member low in (
      elim c.match-member.branch [
        | in-Some+in_ok-push_word w ↦
            subst (Grows old) (sym w.self-is)
            (grows_further old mid w.push_word.new.self c.loop-member.invariant.0
            (head_grows mid w.push_word.new.self _ w.in_ok-push_word.ensures.ok))
        | in_default w ↦ subst (Grows old) (sym w.self-is) c.loop-member.invariant.0
      ],
      λ base ps front h fit.
          let before = c.loop-member.invariant.1 base ps front h fit in
          elim c.match-member.branch [
            | in-Some+in_ok-push_word w ↦
                subst (λ s. StoresHead old s (entries (pairs_shapes (pairs (take
                (index + 1) front)))))
                (sym w.self-is)
                (value_word_stored old mid w.push_word.new.self base ps members front index
                w.in-Some.word m h low is w.in-Some.is before w.in_ok-push_word.ensures.ok)
            | in_default w ↦
                absurd (no_word old base ps members front index m h low is w.in_default.is fit)
          ],
    )

pub returns-clause-ok : goal.returns-clause-ok
returns-clause-ok c = λ base ps front h fit.
    let index = c.loop-member.member-index in
    subst (λ es. StoresHead c.args.self.now c.loop-member.self (entries (pairs_shapes (pairs es))))
    (take_all index front (omega (
      arith,
      c.loop-member-test.false,
      as_many c.args.self.now base ps c.args.members.now front h,
    ))) (c.loop-member.invariant.1 base ps front h fit)
