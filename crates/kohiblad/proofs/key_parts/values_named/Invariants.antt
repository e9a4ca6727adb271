-- The values are those of the names that were passed, and a table is that of the document.
use Rattle.std.proofs.Common.{◌≡◌, map, take}
use Rattle.std.specs.Prelude.{IfSome, option_map}
use Rattle.jsonb.specs.Document.{document_tree}
use Rattle.jsonb.specs.Node.{node_tree}
use Rattle.kohiblad.specs.KeyParts.{members_named}
use Rattle.kohiblad.specs.MemberTable.{IsTableOf}
use Rattle.kohiblad.proofs.key_parts.values_named.Given as goal

abbrev pub invariant-loop-name : goal.invariant-loop-name
invariant-loop-name l = record {
  named : map (option_map node_tree) l.values.items
      ≡ members_named (map (λ name. name.now) (take l.name-index l.names))
      (document_tree l.fn.document);
  table : IfSome l.table (IsTableOf (document_tree l.fn.document));
}
