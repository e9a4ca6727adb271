-- The line has the names of the columns so far.
use Rattle.std.proofs.Common.{◌≡◌, take, map}
use Rattle.std.specs.List.{join_with_byte}
use Rattle.kohiblad_shell.specs.TableTexts.{separator, text_field}
use Rattle.kohiblad_shell.proofs.table.heading_line.Given as goal

abbrev pub invariant-loop-index : goal.invariant-loop-index
invariant-loop-index l = l.line.items ≡ join_with_byte (separator l.layout)
    (map (λ column. text_field l.layout column.name.now) (take l.index l.columns))
