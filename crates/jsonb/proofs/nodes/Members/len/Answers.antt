use Rattle.std.proofs.Common.{length, ap, ◌∙◌}
use Rattle.jsonb.specs.Entries.{entries_of}
use Rattle.jsonb.specs.EntryTrees.{rest_pairs}
use Rattle.jsonb.proofs.EntryTreeLaws.{length-AreParts, length-rest_pairs}
use Rattle.jsonb.proofs.nodes.Members.len.Goals as goal

pub returns : goal.returns
returns c =
    let s = c.self.inside in
    c.len.ensures ∙ length-AreParts s.keys c.self.invariant.0.0
    ∙ length-rest_pairs (entries_of s.keys) (entries_of s.values) c.self.invariant.1.1
    ∙ ap (λ left. length (rest_pairs left)) c.self.view_is
