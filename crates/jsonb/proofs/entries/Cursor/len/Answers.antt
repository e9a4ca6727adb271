use Rattle.std.proofs.Common.{length, sym, ap, ◌∙◌}
use Rattle.jsonb.specs.Entries.{Run}
use Rattle.jsonb.proofs.EntryLaws.{length-placed_from}
use Rattle.jsonb.proofs.entries.Cursor.len.Goals as goal

pub returns : goal.returns
returns c =
    let i = c.self.inside in
    sym (length-placed_from i.bytes.now i.left i.word i.start)
    ∙ ap (λ (run : Run). length run.entries) c.self.view_is
