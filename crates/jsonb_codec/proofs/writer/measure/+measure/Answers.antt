use Rattle.std.proofs.Common.{ap, arith, length}
use Rattle.std.proofs.lemmas.Option.{IfSome_then}
use Rattle.jsonb_codec.proofs.Shapes.{measured_end, length-array, length-object, IfNone_then}
use Rattle.jsonb_codec.proofs.writer.measure.+measure.Goals as goal

pub measure_array-returns-clause-some : goal.measure_array-returns-clause-some
measure_array-returns-clause-some g t c =
    IfSome_then c.measure_items.result c.measure_items.ensures.some (λ n f ss h.
    let (fit, long) = f ss h in
    let bare = ap length (g.S.Source.laws.bare_items c.args.items ss h) in (
      (omega (arith, c.if-count-gt-MAX_COUNT.false, c.count-count.ensures ss h), fit),
      omega (arith, long, length-array ss, c.count-count.ensures ss h, bare),
    ))

pub measure_array-returns-clause-none : goal.measure_array-returns-clause-none
measure_array-returns-clause-none g t c =
    IfNone_then c.measure_items.result c.measure_items.ensures.none (λ past ss h fit.
    let bare = ap length (g.S.Source.laws.bare_items c.args.items ss h) in
    omega (arith, past ss h fit.1, length-array ss, c.count-count.ensures ss h, bare))

pub measure_array-returns-then-first-limit-clause-none :
    goal.measure_array-returns-then-first-limit-clause-none
measure_array-returns-then-first-limit-clause-none g t c ss h fit =
    let bare = ap length (g.S.Source.laws.bare_items c.args.items ss h) in
    omega (arith, c.if-first-limit.true, length-array ss, c.count-count.ensures ss h, bare)

pub measure_object-returns-clause-some : goal.measure_object-returns-clause-some
measure_object-returns-clause-some g t c =
    IfSome_then c.measure_members.result c.measure_members.ensures.some (λ n f ss h.
    let members = c.members.ensures.are ss h in
    let count = c.object_count-count.ensures ss h in
    let (fit, long) = f ss members in (
      (omega (arith, c.if-count-gt-MAX_COUNT.false, count), fit),
      omega (arith, long, length-object ss, count),
    ))

pub measure_object-returns-clause-none : goal.measure_object-returns-clause-none
measure_object-returns-clause-none g t c =
    IfNone_then c.measure_members.result c.measure_members.ensures.none (λ past ss h fit.
    let members = c.members.ensures.are ss h in
    let count = c.object_count-count.ensures ss h in
    omega (arith, past ss members fit.1, length-object ss, count))

pub measure_object-returns-then-first-limit-clause-none :
    goal.measure_object-returns-then-first-limit-clause-none
measure_object-returns-then-first-limit-clause-none g t c ss h fit =
    omega (arith, c.if-first-limit.true, length-object ss, c.object_count-count.ensures ss h)

pub measure_items-returns-clause-some : goal.measure_items-returns-clause-some
measure_items-returns-clause-some g t c =
    let w = c.loop-item.invariant in
    measured_end w g.S.Source.laws.one_items
    (c.in_default.ensures.split w.some w.are_some)

pub measure_members-returns-clause-some : goal.measure_members-returns-clause-some
measure_members-returns-clause-some g t c =
    let w = c.loop-key.invariant in
    measured_end w g.S.Source.laws.one_members
    (c.in_default.ensures.split w.some w.are_some)
