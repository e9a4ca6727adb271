use Rattle.kohiblad.specs.Located.{IsTakenAt}
use Rattle.kohiblad.proofs.TakingLaws.{none_taken, one_more_taken}
use Rattle.kohiblad.proofs.located.put_places.Goals as goal

pub loop-place-init : goal.loop-place-init
loop-place-init g c = none_taken _ c.args.places c.args.values.now c.args.states.now

pub loop-place-preserved : goal.loop-place-preserved
loop-place-preserved g c =
    one_more_taken
    (IsTakenAt (g.T.ColumnType.stands c.args.column_type.now) c.args.blank c.args.bytes.now)
    c.args.places c.loop-place.left c.next.new.self c.in-Some.place c.loop-place.number
    c.args.values.now c.loop-place.values c.args.states.now c.loop-place.states
    c.take_place-value.result c.loop-place.invariant c.in-Some.ensures c.take_place-value.ensures
    c.requires.values c.requires.states
