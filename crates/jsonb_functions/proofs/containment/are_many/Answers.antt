use Rattle.std.proofs.Common.{arith, refl}
use Rattle.std.proofs.lemmas.Bool.{lt-ltb}
use Rattle.jsonb.specs.Document.{document_tree}
use Rattle.jsonb.specs.EntryTrees.{rest_trees}
use Rattle.jsonb_functions.proofs.ContainLaws.{items_counted}
use Rattle.jsonb_functions.proofs.containment.are_many.Goals as goal

pub returns-then-wanted-gt-FEW : goal.returns-then-wanted-gt-FEW
returns-then-wanted-gt-FEW c =
    let many = lt-ltb 16 c.args.wanted (omega (arith, c.if-wanted-gt-FEW.true)) in
    items_counted (document_tree c.args.array) (rest_trees c.in-Some.items) c.args.wanted _
    c.in-Some.ensures (rw (many, ← c.len.ensures) refl)
