use Rattle.std.proofs.Common.{◌≡◌, not, rules, true}
use Rattle.kept_rows.specs.FirstRows.{has_key}
use Rattle.kohiblad_shell.proofs.KeptLaws.{lone_row, new_breaks}
use Rattle.kohiblad_shell.specs.Sorts.{keyed_bytes}
use Rattle.kohiblad_shell.proofs.distinct.write_new.Goals as goal

pub returns-then-branch-clause-err : goal.returns-then-branch-clause-err
returns-then-branch-clause-err g c =
    let is : c.args.keyed.now ≡ keyed_bytes c.in-Some-default-empty.row =
    lone_row c.args.keyed.now c.in-Some-default-empty.field-0-1.now c.in-Some-default-empty.row
    c.in-Some-default-empty.ensures c.in-Some-default-empty.len_below in
    let key : c.in_ok-to_vec.field-0.items ≡ c.in-Some-default-empty.row.key.now =
    search rules in
    let fresh : true ≡ not (has_key c.args.seen.now c.in_ok-to_vec.field-0.items) =
    first_of (search rules, cc) in
    new_breaks c.write_bytes.result c.args.seen.now (g.W.Write.contents c.args.writer.now)
    (g.W.Write.contents c.write_bytes.new.writer) c.args.keyed.now
    c.in_ok-to_vec.field-0.items c.in-Some-default-empty.row is key fresh
    c.write_bytes.ensures.err
