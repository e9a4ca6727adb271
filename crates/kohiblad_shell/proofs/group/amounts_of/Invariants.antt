-- What the aggregates so far take, and what is left.
use Rattle.std.proofs.Common.{◌≡◌, ◌++◌, length}
use Rattle.jsonb.specs.Document.{document_tree}
use Rattle.kohiblad_shell.specs.Aggregates.{amounts_of, are_fit}
use Rattle.kohiblad_shell.proofs.group.amounts_of.Given as goal

abbrev pub invariant-loop-left : goal.invariant-loop-left
invariant-loop-left l = record {
  fits : are_fit l.aggregates (document_tree l.document)
      ≡ are_fit l.left (document_tree l.document);
  made : amounts_of l.aggregates (document_tree l.document)
      ≡ l.amounts.items ++ amounts_of l.left (document_tree l.document);
}

abbrev pub decreases-loop-left : goal.decreases-loop-left
decreases-loop-left l = length l.left
