use Rattle.std.proofs.Common.{refl, subst, arith}
use Rattle.jsonb_value.specs.Json.Syntax.{pairs}
use Rattle.jsonb_codec.specs.Canon.{pairs_shapes}
use Rattle.jsonb_codec.specs.Tape.{AreKeyWordsIfFit}
use Rattle.jsonb_codec.proofs.OnTape.Closing.{head_grows, object_head, too_many}
use Rattle.jsonb_codec.proofs.OnTape.Open.{grows_further, members_stay, nothing_grows}
use Rattle.jsonb_codec.proofs.tape.storage.Storage.push_object_head.Goals as goal

pub returns-then-count-gt-MAX_COUNT-clause-grows :
    goal.returns-then-count-gt-MAX_COUNT-clause-grows
returns-then-count-gt-MAX_COUNT-clause-grows c = nothing_grows _

pub returns-then-count-gt-MAX_COUNT-clause-ok : goal.returns-then-count-gt-MAX_COUNT-clause-ok
returns-then-count-gt-MAX_COUNT-clause-ok c = λ base ps front h ascend.
    too_many c.args.self.now base ps c.args.members.now front h
    (omega (arith, c.if-count-gt-MAX_COUNT.true))

pub push_key_words-requires-clause-members : goal.push_key_words-requires-clause-members
push_key_words-requires-clause-members c =
    let (base, (ps, (front, h))) = c.requires in
    let old = c.args.self.now in
    let begun = c.push_word.new.self in (
      base,
      (
        ps,
        (
          front,
          members_stay old begun base ps c.args.members.now front
              (head_grows old begun _ c.in_ok-push_word.ensures.ok) h,
        ),
      ),
    )

pub returns-in_default-clause-ok : goal.returns-in_default-clause-ok
returns-in_default-clause-ok c = λ base ps front h ascend fits.
    let old = c.args.self.now in
    let begun = c.push_word.new.self in
    let held = members_stay old begun base ps c.args.members.now front
    (head_grows old begun _ c.in_ok-push_word.ensures.ok) h in
    subst (λ size. AreKeyWordsIfFit begun c.push_key_words.new.self size (pairs_shapes
    (pairs front)))
    c.in_default.is (c.in_ok-size.ensures.ok base ps front held) fits.1

pub push_keys-requires : goal.push_keys-requires
push_keys-requires c =
    let (base, (ps, (front, h))) = c.requires in
    let old = c.args.self.now in
    let begun = c.push_word.new.self in
    let keyed = c.push_key_words.new.self in
    let valued = c.push_value_words.new.self in (
      base,
      (
        ps,
        (
          front,
          members_stay old valued base ps c.args.members.now front
              (grows_further old keyed valued
              (grows_further old begun keyed (head_grows old begun _ c.in_ok-push_word.ensures.ok)
              c.in_ok-size.ensures.grows) c.in_ok-push_value_words.ensures.grows) h,
        ),
      ),
    )

pub returns-clause-ok : goal.returns-clause-ok
returns-clause-ok c = λ base ps front h ascend.
    let old = c.args.self.now in
    let members = c.args.members.now in
    let begun = c.push_word.new.self in
    let keyed = c.push_key_words.new.self in
    let valued = c.push_value_words.new.self in
    let first = head_grows old begun _ c.in_ok-push_word.ensures.ok in
    let second = grows_further old begun keyed first c.in_ok-size.ensures.grows in
    let third = grows_further old keyed valued second c.in_ok-push_value_words.ensures.grows in
    let made = subst
    (λ size. AreKeyWordsIfFit begun keyed size (pairs_shapes (pairs front))) c.in-Some.is
    (c.in_ok-size.ensures.ok base ps front
    (members_stay old begun base ps members front first h)) in
    object_head old begun keyed valued c.push_keys.new.self base ps members front _ c.in-Some.size h
    ascend (omega (arith, c.if-count-gt-MAX_COUNT.false))
    (rw c.tagged_word.ensures at c.in_ok-push_word.ensures.ok) made.0 made.1.0 made.1.1
    (c.in_ok-push_value_words.ensures.ok base ps front
    (members_stay old keyed base ps members front second h) made.1.0)
    (c.in_ok-push_keys.ensures.ok base ps front
    (members_stay old valued base ps members front third h)) refl
