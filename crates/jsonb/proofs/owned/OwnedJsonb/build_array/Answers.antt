use Rattle.std.proofs.Common.{[], ◌∷◌, map, sym}
use Rattle.std.proofs.lemmas.List.{map-append}
use Rattle.std.proofs.lemmas.Result.{IfOk-weaker}
use Rattle.jsonb.specs.Raw.{raw_bytes}
use Rattle.jsonb.specs.ItemView as items
use Rattle.jsonb.specs.Children.{raw_view}
use Rattle.jsonb.proofs.ResultLaws.{map-map, IsArrayOfInputs-IsArrayOf}
use Rattle.jsonb.proofs.owned.OwnedJsonb.build_array.Goals as goal

pub loop-input-preserved : goal.loop-input-preserved
loop-input-preserved g c =
    let walk = c.loop-input in
    rw (map-append raw_view walk.yielded (c.in-Some.input ∷ []))
    (c.push.ensures (map raw_view walk.yielded) (raw_view c.in-Some.input) c.document_part.ensures
    walk.invariant)

pub returns-clause-limits : goal.returns-clause-limits
returns-clause-limits g c =
    let walk = c.loop-input in (
      c.into_iter-input-iterator.result,
      (
        walk.yielded,
        (
          c.into_iter-input-iterator.ensures.into_iter_gives,
          (
            (
              c.next.new.self,
              (walk.input-iterator, walk.yielded_by, c.in-None.ensures.steps),
            ),
            c.build.ensures.limits (map raw_view walk.yielded) walk.invariant,
          ),
        ),
      ),
    )

pub returns-clause-past : goal.returns-clause-past
returns-clause-past g c = λ e.
    let (it, (xs, (made, (drained, limits)))) = returns-clause-limits g c in
    (it, (xs, (made, (drained, limits.past.0 e))))

pub returns-clause-only : goal.returns-clause-only
returns-clause-only g c =
    (c.build.ensures.limits (map raw_view c.loop-input.yielded) c.loop-input.invariant).only

pub returns-clause-ok : goal.returns-clause-ok
returns-clause-ok g c =
    let walk = c.loop-input in
    IfOk-weaker c.build.result _ _
    (λ owned h. (
      c.into_iter-input-iterator.result,
      (
        walk.yielded,
        (
          c.into_iter-input-iterator.ensures.into_iter_gives,
          (
            (
              c.next.new.self,
              (walk.input-iterator, walk.yielded_by, c.in-None.ensures.steps),
            ),
            IsArrayOfInputs-IsArrayOf
                (map raw_bytes walk.yielded) _ _
                (sym (map-map items.raw raw_bytes walk.yielded))
                (h (map raw_view walk.yielded) walk.invariant),
          ),
        ),
      ),
    )) c.build.ensures.ok
