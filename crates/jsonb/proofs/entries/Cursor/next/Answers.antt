use Rattle.std.proofs.Common.{◌+◌, ◌-◌, ◌∷◌, List, ℕ, Ok, sym, ap, ◌∙◌, arith}
use Rattle.jsonb.specs.Entry.{entry_there}
use Rattle.jsonb.specs.Entries.{Run, entries_of, run_from}
use Rattle.jsonb.proofs.EntryLaws.{entries_of-first}
use Rattle.jsonb.proofs.entries.Cursor.next.Goals as goal

pub returns-in-Ok-clause-steps : goal.returns-in-Ok-clause-steps
returns-in-Ok-clause-steps c =
    let i = c.self.inside in
    let entry = c.in-Ok.entry in
    sym (ap entries_of c.self.view_is)
    ∙ entries_of-first i.bytes.now i.word i.start i.left (i.left - 1) entry (omega arith)
    (sym c.in-Ok.ensures.value)
    ∙ ap (λ (b : List ℕ). Ok (entry_there b entry)
    ∷ entries_of (run_from i.bytes.now (i.left - 1) (i.word + 4) (i.start + entry.length)))
    (ap (λ (run : Run). run.bytes) c.self.view_is)
