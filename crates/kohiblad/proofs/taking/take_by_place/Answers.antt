use Rattle.jsonb_codec.proofs.Scalars.{empty_test}
use Rattle.kohiblad.proofs.UncheckedLaws.{empty_taken}
use Rattle.kohiblad.proofs.taking.take_by_place.Goals as goal

pub returns-then-is_empty : goal.returns-then-is_empty
returns-then-is_empty g c =
    empty_taken (g.T.ColumnType.stands c.args.column_type.now) c.args.blank c.args.path.now c.args.row.now
    ((empty_test _ c.args.row.now c.is_empty.ensures).0 c.if-is_empty.true)
