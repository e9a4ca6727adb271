use Rattle.std.proofs.Common.{◌≡◌, length, arith}
use Rattle.std.proofs.lemmas.Grind.{common_steps}
use Rattle.kohiblad_shell.proofs.RunLaws.{next_cut, next_no_array, next_none, next_rows, next_wrong}
use Rattle.kohiblad_shell.proofs.run.answer_next.Goals as goal

pub returns-in-Ok-clause-answer : goal.returns-in-Ok-clause-answer
returns-in-Ok-clause-answer g c =
    next_rows _ _ _ _ c.read_row.new.row.items c.in-Ok.lines
    (rw c.in-Row.is at c.in_ok-read_row.ensures.ok)
    (rw c.deref.ensures.value at c.in-Ok.ensures.answer)

pub returns-in-Err-Wrong-clause-answer : goal.returns-in-Err-Wrong-clause-answer
returns-in-Err-Wrong-clause-answer g c =
    next_wrong _ _ _ _ c.read_row.new.row.items c.in-Err-Wrong.fault
    (rw c.in-Row.is at c.in_ok-read_row.ensures.ok)
    (rw (c.in-Err-Wrong.field-0-is, c.deref.ensures.value) at c.in-Err-Wrong.ensures.answer)

pub returns-in-Cut-clause-answer : goal.returns-in-Cut-clause-answer
returns-in-Cut-clause-answer g c =
    let same : c.len.result ≡ length c.read_row.new.row.items = grind (arith, common_steps) in
    rw (c.plain.ensures, same)
    (next_cut _ _ _ _ c.read_row.new.row.items (rw c.in-Cut.is at c.in_ok-read_row.ensures.ok))

pub returns-in-NoArray-clause-answer : goal.returns-in-NoArray-clause-answer
returns-in-NoArray-clause-answer g c =
    let same : c.len-in-NoArray.result ≡ length c.read_row.new.row.items = grind (arith, common_steps) in
    rw (c.plain-in-NoArray.ensures, same)
    (next_no_array _ _ _ _ c.read_row.new.row.items c.in-NoArray.fault
    (rw c.in-NoArray.is at c.in_ok-read_row.ensures.ok))

pub returns-in-End-clause-answer : goal.returns-in-End-clause-answer
returns-in-End-clause-answer g c =
    next_none _ _ _ _ c.read_row.new.row.items (rw c.in-End.is at c.in_ok-read_row.ensures.ok)
