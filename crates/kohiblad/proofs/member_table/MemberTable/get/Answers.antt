use Rattle.std.proofs.Common.{◌∙◌, ap, Ok, Err}
use Rattle.std.specs.Prelude.{option_map}
use Rattle.jsonb.specs.Node.{node_tree}
use Rattle.kohiblad.proofs.MemberTableLaws.{read_at, table_finds}
use Rattle.kohiblad.proofs.member_table.MemberTable.get.Goals as goal

pub returns-in-Ok : goal.returns-in-Ok
returns-in-Ok c t h =
    let read = read_at c.get.result c.deref-in-Ok.result.now c.in-Ok.place
    c.get.ensures.lookup.3 in
    ap (λ found. option_map node_tree found)
    (c.copied.ensures ∙ rw c.deref-in-Ok.ensures.value at read)
    ∙ table_finds t c.args.self.now c.args.name (Ok c.in-Ok.place) h
    (rw c.deref.ensures.value at c.in-Ok.ensures.bound)
    (rw c.deref.ensures.value at c.in-Ok.ensures.position)

pub returns-in-Err : goal.returns-in-Err
returns-in-Err c t h =
    table_finds t c.args.self.now c.args.name (Err c.in-Err.field-0) h
    (rw c.deref.ensures.value at c.in-Err.ensures.bound)
    (rw c.deref.ensures.value at c.in-Err.ensures.position)
