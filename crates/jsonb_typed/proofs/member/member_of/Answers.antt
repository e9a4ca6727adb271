use Rattle.std.specs.Prelude.{length, nat_eq}
use Rattle.std.specs.Cmp.Lexicographic.{pointwise}
use Rattle.jsonb_typed.proofs.MemberLaws.{key_document, path_document}
use Rattle.jsonb_typed.proofs.member.member_of.Goals as goal

pub returns-in-Key-clause-document : goal.returns-in-Key-clause-document
returns-in-Key-clause-document c =
    let name = c.in-Key.name.now in
    key_document (pointwise nat_eq name) (length name) c.args.row c.get_counted.result
    c.get_counted.ensures.entry

pub returns-in_default-clause-document : goal.returns-in_default-clause-document
returns-in_default-clause-document c =
    path_document c.args.path.now c.args.row c.get_path.result c.get_path.ensures.entry
