-- The bytes so far are appended.
use Rattle.std.proofs.Common.{◌≡◌, ◌++◌, take}
use Rattle.kohiblad_shell.specs.TableTexts.{doubled}
use Rattle.kohiblad_shell.proofs.table_text.push_doubled.Given as goal

abbrev pub invariant-loop-byte : goal.invariant-loop-byte
invariant-loop-byte l =
    l.field.items ≡ l.initial.field.items ++ doubled (take l.byte-index l.byte-items)
