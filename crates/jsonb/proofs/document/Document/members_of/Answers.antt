use Rattle.std.proofs.Common.{sym, ap, subst, ◌∙◌}
use Rattle.jsonb_codec.specs.WordBytes.{header_at}
use Rattle.jsonb.specs.declared.document.Contents.TheVariants as contents
use Rattle.jsonb.specs.Contents.{AreStoredIn}
use Rattle.jsonb.specs.Document.{document_tree}
use Rattle.jsonb.specs.Entries.{entries_of, key_run}
use Rattle.jsonb.proofs.NodeLaws.{object_opened, words_there}
use Rattle.jsonb.proofs.document.Document.members_of.Goals as goal

pub over_values_within-requires-clause-there : goal.over_values_within-requires-clause-there
over_values_within-requires-clause-there c =
    words_there _ (document_tree c.args.self.now) _ c.as_bytes-bytes.ensures.document
    (c.requires.header ∙ ap (λ b. header_at b 0) (sym c.as_bytes-bytes.ensures.bytes))

pub new-requires : goal.new-requires
new-requires c =
    let read = c.requires.header ∙ ap (λ b. header_at b 0) (sym c.as_bytes-bytes.ensures.bytes) in
    rw c.over_keys-keys.ensures
    (rw (sym c.over_values_within.ensures) at
    (object_opened _ (document_tree c.args.self.now) _
    c.as_bytes-bytes.ensures.document read)).members

pub returns-clause-tree : goal.returns-clause-tree
returns-clause-tree c =
    let read = c.requires.header ∙ ap (λ b. header_at b 0) (sym c.as_bytes-bytes.ensures.bytes) in
    rw (c.new.ensures, c.over_keys-keys.ensures)
    (rw (sym c.over_values_within.ensures) at
    (object_opened _ (document_tree c.args.self.now) _ c.as_bytes-bytes.ensures.document read)).tree

pub returns-clause-entries : goal.returns-clause-entries
returns-clause-entries c =
    let read = c.requires.header ∙ ap (λ b. header_at b 0) (sym c.as_bytes-bytes.ensures.bytes) in
    let t = document_tree c.args.self.now in
    let opened = rw (sym c.over_values_within.ensures) at
    (object_opened _ t _ c.as_bytes-bytes.ensures.document read) in
    rw (c.new.ensures, c.over_keys-keys.ensures)
    (subst (λ b. AreStoredIn b t
    (contents.Object (
      entries_of (key_run c.as_bytes-bytes.result.now c.args.count),
      entries_of c.over_values_within.result,
    )))
    c.as_bytes-bytes.ensures.bytes opened.stored)
