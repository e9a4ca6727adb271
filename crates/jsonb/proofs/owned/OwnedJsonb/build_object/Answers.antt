use Rattle.std.proofs.Common.{◌≡◌, ◌∙◌, sym, refl, ℕ, List, Bor, map, IsTrue, true, false}
use Rattle.std.proofs.Common.{rules, inl, inr}
use Rattle.std.specs.List.{IsDistinct}
use Rattle.std.specs.Prelude.{IsSome}
use Rattle.std.proofs.lemmas.Result.{IfOk-weaker}
use Rattle.jsonb_codec.specs.Stored.{code_of_some}
use Rattle.jsonb.specs.declared.raw.RawJsonb.{RawJsonb}
use Rattle.jsonb.specs.Building.{has_key, in_order, AreKeys}
use Rattle.jsonb.specs.Children.{map_keys}
use Rattle.jsonb.specs.Results.{input_pair, raw_pairs}
use Rattle.jsonb.proofs.InputLaws.{distinct_with, key_there, one_more, still_distinct}
use Rattle.jsonb.proofs.ResultObjects.{both_ok, IsObjectOfInputs-IsObjectOf}
use Rattle.jsonb.proofs.SameEntryLaws.{shown_insert, has_key-shown, at_keys}
use Rattle.jsonb.proofs.owned.OwnedJsonb.build_object.Goals as goal

pub loop-key-init : goal.loop-key-init
unfolding IsDistinct
loop-key-init g c = record { shown = search rules; distinct = tt }

pub loop-key-preserved : goal.loop-key-preserved
loop-key-preserved g c =
    let walk = c.loop-key in
    let before = raw_pairs (in_order (map input_pair walk.yielded)) in
    let x : Bor (List ℕ) × RawJsonb = (c.in-Some.key, c.in-Some.input) in
    let new : has_key before c.in-Some.key.now ≡ false = search (
      rules,
      has_key-shown IsSome code_of_some walk.pairs.entries before walk.invariant.shown
          c.in-Some.key.now,
    ) in
    let more = one_more input_pair before walk.yielded refl _ x refl in
    record {
      shown =
          rw (← more, c.in_ok-insert.ensures.entries) (shown_insert IsSome code_of_some
          walk.pairs.entries before walk.invariant.shown c.in-Some.key _ _
          c.document_part.ensures);
      distinct = still_distinct input_pair before walk.yielded refl x new walk.invariant.distinct;
    }

pub returns-then-contains_key-clause-duplicate : goal.returns-then-contains_key-clause-duplicate
returns-then-contains_key-clause-duplicate g c = λ e.
    let walk = c.loop-key in
    let before = raw_pairs (in_order (map input_pair walk.yielded)) in
    let found : has_key before c.in-Some.key.now ≡ true = search (
      rules,
      has_key-shown IsSome code_of_some walk.pairs.entries before walk.invariant.shown
          c.in-Some.key.now,
    ) in
    let there : IsTrue (has_key (map input_pair walk.yielded) c.in-Some.key.now) =
    sym (key_there input_pair before walk.yielded refl c.in-Some.key.now) ∙ found in (
      c.into_iter-key-iterator.result,
      (
        walk.yielded,
        (
          (c.in-Some.key, c.in-Some.input),
          (
            c.next.new.self,
            (
              c.into_iter-key-iterator.ensures.into_iter_gives,
              ((walk.key-iterator, walk.yielded_by, c.in-Some.ensures.steps), there),
            ),
          ),
        ),
      ),
    )

pub returns-clause-past : goal.returns-clause-past
returns-clause-past g c = λ e.
    let walk = c.loop-key in (
      c.into_iter-key-iterator.result,
      (
        walk.yielded,
        (
          c.into_iter-key-iterator.ensures.into_iter_gives,
          (
            (c.next.new.self, (walk.key-iterator, walk.yielded_by, c.in-None.ensures.steps)),
            record {
              distinct = walk.invariant.distinct;
              none = c.object_document.ensures.past e _ walk.invariant.shown;
            },
          ),
        ),
      ),
    )

pub returns-clause-ok : goal.returns-clause-ok
returns-clause-ok g c =
    let walk = c.loop-key in
    let built = raw_pairs (in_order (map input_pair walk.yielded)) in
    let keys =
    (at_keys IsSome code_of_some walk.pairs.entries built walk.invariant.shown).0 in
    IfOk-weaker c.object_document.result _ _
    (λ owned h. (
      c.into_iter-key-iterator.result,
      (
        walk.yielded,
        (
          c.into_iter-key-iterator.ensures.into_iter_gives,
          (
            (c.next.new.self, (walk.key-iterator, walk.yielded_by, c.in-None.ensures.steps)),
            IsObjectOfInputs-IsObjectOf
                (map input_pair walk.yielded) built _ refl walk.invariant.distinct
                (h.0 _ walk.invariant.shown) (rw (← keys) h.1),
          ),
        ),
      ),
    )) (both_ok c.object_document.result _ (AreKeys (map_keys walk.pairs.entries))
    c.object_document.ensures.ok c.object_document.ensures.keys)

-- Memory was refused for the next key, which is not among those before it.
pub returns-in_err-insert-clause-memory : goal.returns-in_err-insert-clause-memory
returns-in_err-insert-clause-memory g c = λ e.
    let walk = c.loop-key in
    let before = raw_pairs (in_order (map input_pair walk.yielded)) in
    let x : Bor (List ℕ) × RawJsonb = (c.in-Some.key, c.in-Some.input) in
    let new : has_key before c.in-Some.key.now ≡ false = search (
      rules,
      has_key-shown IsSome code_of_some walk.pairs.entries before walk.invariant.shown
          c.in-Some.key.now,
    ) in
    inr (
      c.into_iter-key-iterator.result,
      (
        walk.yielded,
        (
          x,
          (
            c.next.new.self,
            (
              c.into_iter-key-iterator.ensures.into_iter_gives,
              (
                (walk.key-iterator, walk.yielded_by, c.in-Some.ensures.steps),
                distinct_with input_pair before walk.yielded refl x new walk.invariant.distinct,
              ),
            ),
          ),
        ),
      ),
    )

pub returns-clause-memory : goal.returns-clause-memory
returns-clause-memory g c = λ e.
    let walk = c.loop-key in
    inl (
      c.into_iter-key-iterator.result,
      (
        walk.yielded,
        (
          c.into_iter-key-iterator.ensures.into_iter_gives,
          (
            (c.next.new.self, (walk.key-iterator, walk.yielded_by, c.in-None.ensures.steps)),
            c.object_document.ensures.memory e _ walk.invariant.shown,
          ),
        ),
      ),
    )
