use Rattle.std.proofs.Common.{arith}
use Rattle.typed_chunk.proofs.SearchLaws.{found_there, put_here, searchable_there}
use Rattle.typed_chunk.proofs.entries.add_entry.Goals as goal

pub returns-in-Ok : goal.returns-in-Ok
returns-in-Ok c =
    found_there c.args.entries.now.items c.deref.result.now c.in-Ok.field-0 c.args.text.now
    c.deref.ensures.value c.requires c.in-Ok.ensures.bound c.in-Ok.ensures.ok

pub returns-in-Ok-insert : goal.returns-in-Ok-insert
returns-in-Ok-insert c =
    let entries = c.args.entries.now.items in
    let slice = c.deref.result.now in
    let point = c.in-Err.ensures.position
    (searchable_there entries slice c.args.text.now c.deref.ensures.value c.requires) in
    put_here entries slice c.insert.new.self.items c.in-Err.place c.args.text
    c.deref.ensures.value c.in-Ok-insert.ensures.items c.in-Err.ensures.bound
    (λ j d low. point.0 j d (omega arith) low) (λ j d high low. point.1 j d high low)
