use Rattle.jsonb_value.specs.Tree as trees
use Rattle.jsonb.specs.ItemValues.{number_of_item}
use Rattle.kohiblad.proofs.ScalarReads.{number_held}
use Rattle.kohiblad.proofs.UncheckedLaws.{number_taken}
use Rattle.kohiblad.proofs.taking.take_number.Goals as goal

pub returns-in-Ok-clause-other : goal.returns-in-Ok-clause-other
returns-in-Ok-clause-other g c none =
    absurd (none (trees.number (number_of_item c.in-Ok.number))
    (number_held c.args.payload.now (number_of_item c.in-Ok.number) c.in-Ok.ensures.ok))

pub returns-in-Ok-clause-number : goal.returns-in-Ok-clause-number
returns-in-Ok-clause-number g c t means =
    number_taken (g.T.ColumnType.stands c.args.column_type.now) c.args.blank c.args.payload.now t
    (number_of_item c.in-Ok.number) c.take_value.result means c.in-Ok.ensures.ok
    c.take_value.ensures
