use Rattle.kohiblad_shell.proofs.ExtractLaws.{heading_more}
use Rattle.kohiblad_shell.proofs.table.heading_line.Goals as goal

pub loop-index-preserved : goal.loop-index-preserved
loop-index-preserved c =
    heading_more c.args.layout c.args.columns.now c.loop-index.index
    c.index-columns-index.result
    c.loop-index.line.items c.push_field.new.line.items c.in_ok-field.field.items
    c.loop-index-test.true c.index-columns-index.is c.in_ok-field.ensures c.loop-index.invariant
    (rw (c.deref.ensures.value, c.separator.ensures) at c.in_ok-push_field.ensures)
