-- The line has the fields of the columns so far.
use Rattle.std.proofs.Common.{◌≡◌, ℕ, List, take}
use Rattle.std.specs.Prelude.{Some}
use Rattle.std.specs.List.{AllZip, join_with_byte}
use Rattle.jsonb.specs.Document.{document_tree}
use Rattle.kohiblad_shell.specs.Extracts.{IsFieldAt}
use Rattle.kohiblad_shell.specs.TableTexts.{separator}
use Rattle.kohiblad_shell.proofs.extract.table_line.Given as goal

abbrev pub invariant-loop-index : goal.invariant-loop-index
invariant-loop-index l = (fields : List (List ℕ))
    × (AllZip (λ column field. IsFieldAt l.layout (document_tree l.document) column (Some field))
    (take l.index l.columns) fields
    × (l.line.items ≡ join_with_byte (separator l.layout) fields))
