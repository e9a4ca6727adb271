use Rattle.kohiblad.specs.Taking.{IsTakenBy}
use Rattle.kohiblad.proofs.TakingLaws.{none_taken, one_more_taken}
use Rattle.kohiblad.proofs.taking.put_rows.Goals as goal

pub loop-row-init : goal.loop-row-init
loop-row-init g c = none_taken _ c.args.rows c.args.values.now c.args.states.now

pub loop-row-preserved : goal.loop-row-preserved
loop-row-preserved g c =
    one_more_taken
    (IsTakenBy (g.T.ColumnType.stands c.args.column_type.now) c.args.blank c.args.reading
    c.args.path.now)
    c.args.rows c.loop-row.left c.next.new.self c.in-Some.row.now c.loop-row.number
    c.args.values.now c.loop-row.values c.args.states.now c.loop-row.states c.read_row-value.result
    c.loop-row.invariant c.in-Some.ensures c.read_row-value.ensures c.requires.values
    c.requires.states
