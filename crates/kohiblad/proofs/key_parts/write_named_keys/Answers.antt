use Rattle.std.proofs.Common.{map, rules}
use Rattle.std.specs.Prelude.{option_map}
use Rattle.jsonb.specs.Document.{document_tree}
use Rattle.jsonb.specs.Node.{node_tree}
use Rattle.kohiblad.proofs.MemberKeyLaws.{handed_over}
use Rattle.kohiblad.proofs.key_parts.write_named_keys.Goals as goal

pub returns-in-Ok : goal.returns-in-Ok
returns-in-Ok c =
    handed_over (map (λ name. name.now) c.args.names.now) (document_tree c.args.document)
    (map (option_map node_tree) c.in-Ok.values.items) c.args.out.now _ _ _ c.in-Ok.ensures.ok
    (search rules)
