use Rattle.std.proofs.Common.{rules}
use Rattle.std.specs.Prelude.{IsTrue}
use Rattle.kohiblad.proofs.TypedWritingLaws.{one_more_read}
use Rattle.kohiblad.proofs.typed_writing.documents_of.Goals as goal

pub loop-row-preserved : goal.loop-row-preserved
loop-row-preserved c =
    let held : IsTrue c.is_document_within.result = search rules in
    one_more_read c.args.depth c.args.rows c.loop-row.left c.next.new.self c.in-Some.row.now
    c.loop-row.documents.items c.push.new.self.items c.new_unchecked.result c.loop-row.invariant
    c.in-Some.ensures (c.is_document_within.ensures.0 held) (c.in_ok-push.ensures).items
    (search rules)
