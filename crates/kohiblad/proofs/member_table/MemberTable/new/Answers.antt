use Rattle.std.proofs.Common.{rules}
use Rattle.jsonb.specs.Document.{document_tree}
use Rattle.jsonb.specs.EntryTrees.{rest_pairs}
use Rattle.jsonb.specs.Node.{pairs_of}
use Rattle.jsonb_functions.proofs.KeyOrder.{document_ascends}
use Rattle.jsonb_comparable.proofs.WalkLaws.{object_members}
use Rattle.kohiblad.proofs.MemberTableLaws.{empty_table, table_of}
use Rattle.kohiblad.proofs.member_table.MemberTable.new.Goals as goal

pub returns-in-Some-clause-ok : goal.returns-in-Some-clause-ok
returns-in-Some-clause-ok c =
    let ps = rest_pairs c.in-Some.members in
    let is = object_members (document_tree c.args.document) ps c.in-Some.ensures in
    table_of c.of_members.result (document_tree c.args.document) ps is
    (document_ascends c.args.document (pairs_of ps) is) c.of_members.ensures.ok

pub returns-in-None-clause-ok : goal.returns-in-None-clause-ok
returns-in-None-clause-ok c =
    empty_table (document_tree c.args.document) _ c.in-None.ensures (search rules) (search rules)
