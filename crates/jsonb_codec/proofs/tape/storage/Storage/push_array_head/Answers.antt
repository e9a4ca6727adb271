use Rattle.std.proofs.Common.{rules, refl, arith, ◌/◌, ◌+◌, ◌++◌, length}
use Rattle.jsonb_codec.specs.declared.constants.TheConstants.{ARRAY_CONTAINER_TAG}
use Rattle.jsonb_codec.specs.WordBytes.{word}
use Rattle.jsonb_codec.specs.Tape.{StoresHead}
use Rattle.jsonb_codec.specs.declared.tape.storage.Storage.{Storage}
use Rattle.jsonb_codec.proofs.OnTape.Closing.{array_head, array_long, head_grows, stores_further}
use Rattle.jsonb_codec.proofs.OnTape.Open.{nothing_grows}
use Rattle.jsonb_codec.proofs.tape.storage.Storage.push_array_head.Goals.{In_ok-extend_from_slice}
use Rattle.jsonb_codec.proofs.tape.storage.Storage.push_array_head.Goals as goal

stored : (c : In_ok-extend_from_slice) → StoresHead c.args.self.now
    (record c.push_word.new.self { heads = c.extend_from_slice.new.self })
    (word (ARRAY_CONTAINER_TAG + length c.args.words.now / 4) ++ c.args.words.now)
stored c =
    let mid = c.push_word.new.self in
    let new : Storage = record mid { heads = c.extend_from_slice.new.self } in
    let second : StoresHead mid new c.args.words.now = record {
      heads = search rules;
      payload = refl;
      spelled = refl;
      moved = refl;
    } in
    stores_further c.args.self.now mid new (word (ARRAY_CONTAINER_TAG
    + length c.args.words.now / 4)) c.args.words.now
    (rw c.tagged_word.ensures at c.in_ok-push_word.ensures.ok) second

pub returns-then-count-gt-MAX_COUNT-clause-grows :
    goal.returns-then-count-gt-MAX_COUNT-clause-grows
returns-then-count-gt-MAX_COUNT-clause-grows c = nothing_grows _

pub returns-then-count-gt-MAX_COUNT-clause-ok : goal.returns-then-count-gt-MAX_COUNT-clause-ok
returns-then-count-gt-MAX_COUNT-clause-ok c = λ front trees fit is.
    array_long c.args.words.now front is (omega (arith, c.if-count-gt-MAX_COUNT.true))

pub returns-clause-grows : goal.returns-clause-grows
returns-clause-grows c =
    head_grows c.args.self.now _ _ (stored (goal.at.returns-clause-grows c).In_ok-extend_from_slice)

pub returns-clause-ok : goal.returns-clause-ok
returns-clause-ok c = λ front trees fit is.
    array_head c.args.self.now _ c.args.words.now front _ trees fit is
    (omega (arith, c.if-count-gt-MAX_COUNT.false))
    (omega (arith, c.payloads_len.ensures.ok front fit is))
    (stored (goal.at.returns-clause-ok c).In_ok-extend_from_slice)
