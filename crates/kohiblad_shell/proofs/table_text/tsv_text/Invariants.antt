-- The bytes so far, or their escapes, are there.
use Rattle.std.proofs.Common.{◌≡◌, take}
use Rattle.kohiblad_shell.specs.TableTexts.{tsv_text}
use Rattle.kohiblad_shell.proofs.table_text.tsv_text.Given as goal

abbrev pub invariant-loop-byte : goal.invariant-loop-byte
invariant-loop-byte l = l.field.items ≡ tsv_text (take l.byte-index l.byte-items)
