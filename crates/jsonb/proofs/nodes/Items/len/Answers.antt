use Rattle.std.proofs.Common.{length, sym, ap, ◌∙◌}
use Rattle.std.proofs.lemmas.List.{length-map}
use Rattle.jsonb.specs.Entries.{entries_of}
use Rattle.jsonb.specs.EntryTrees.{rest_trees, tree_read}
use Rattle.jsonb.proofs.EntryTreeLaws.{length-AreParts}
use Rattle.jsonb.proofs.nodes.Items.len.Goals as goal

pub returns : goal.returns
returns c =
    let run = c.self.inside.entries in
    c.len.ensures ∙ length-AreParts run c.self.invariant
    ∙ sym (length-map (entries_of run) tree_read)
    ∙ ap (λ xs. length (rest_trees xs)) c.self.view_is
