use Rattle.std.proofs.Common.{◌≡◌, subst}
use Rattle.std.specs.Prelude.{IfOk}
use Rattle.jsonb_value.specs.Tree.{array}
use Rattle.jsonb_codec.specs.Canon.{Fits, canon}
use Rattle.jsonb.specs.Document.{document_tree}
use Rattle.jsonb.specs.Owned.{owned_bytes}
use Rattle.jsonb_functions.specs.ArraySets.{matched_items}
use Rattle.jsonb_functions.specs.ChosenSource.{listed_trees}
use Rattle.jsonb_functions.specs.Joined.{items_or_one}
use Rattle.jsonb_functions.specs.MadeWithMemory.{MadeWithMemory}
use Rattle.jsonb_functions.proofs.ArraySetLaws.{matched_trees}
use Rattle.jsonb_functions.proofs.MemoryLaws.{with_memory}
use Rattle.jsonb_functions.proofs.array_sets.matched_document.Goals as goal

pub returns-clause-ok : goal.returns-clause-ok
returns-clause-ok c =
    let is : listed_trees c.deref-3.result.now ≡ matched_items c.args.matched
    (items_or_one (document_tree c.args.left)) (items_or_one (document_tree c.args.right)) =
    matched_trees c.args.matched _ _ _ _ _ _ _ _ c.deref-3.ensures.value c.in_ok-found.ensures
    c.deref.ensures.value c.in_ok-items.ensures c.deref-2.ensures.value
    c.in_ok-others.ensures in
    subst (λ ts. IfOk c.array_document.result (λ owned. owned_bytes owned ≡ canon (array ts))) is
    c.array_document.ensures.ok

pub returns-clause-limits : goal.returns-clause-limits
returns-clause-limits c =
    let is : listed_trees c.deref-3.result.now ≡ matched_items c.args.matched
    (items_or_one (document_tree c.args.left)) (items_or_one (document_tree c.args.right)) =
    matched_trees c.args.matched _ _ _ _ _ _ _ _ c.deref-3.ensures.value c.in_ok-found.ensures
    c.deref.ensures.value c.in_ok-items.ensures c.deref-2.ensures.value
    c.in_ok-others.ensures in
    subst (λ ts. MadeWithMemory (Fits (array ts)) c.array_document.result) is
    (with_memory _ _ c.array_document.ensures.limits)
