use Rattle.std.proofs.Common.{◌∷◌, ap, ap₂, sym, ◌∙◌}
use Rattle.jsonb.specs.Entries.{entries_of}
use Rattle.jsonb.specs.EntryTrees.{part_tree, rest_pairs}
use Rattle.jsonb.proofs.nodes.Members.next_parts.Goals as goal

pub returns : goal.returns
returns c =
    sym (ap rest_pairs c.self.view_is)
    ∙ ap₂ (λ ks xs. rest_pairs (ks, xs)) c.in_ok-key.ensures.steps c.in-Some.ensures.steps
    ∙ ap (λ k. (k, part_tree c.in-Some.value)
    ∷ rest_pairs (entries_of c.next_part.new.self, entries_of c.next_part-2.new.self))
    (sym c.text.ensures.bytes)
