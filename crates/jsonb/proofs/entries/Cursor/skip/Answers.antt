use Rattle.std.proofs.Common.{inl, inr, sym, ap, ◌∙◌, arith}
use Rattle.jsonb.specs.Entries.{Run, left_after}
use Rattle.jsonb.proofs.EntryLaws.{IsLess, skipped, skip_cut}
use Rattle.jsonb.proofs.entries.Cursor.skip.Goals.{then-count-self, else-count-self}
use Rattle.jsonb.proofs.entries.Cursor.skip.Goals as goal

pub returns-in-Ok-clause-rest : goal.returns-in-Ok-clause-rest
returns-in-Ok-clause-rest c =
    let i = c.self.inside in
    let less : IsLess c.args.count i.left c.if-count-self.count = elim c.if-count-self.branch [
      | then-count-self w ↦ inl (w.count-is, omega (arith, w.if-count-self.true))
      | else-count-self w ↦ inr (w.count-is, w.if-count-self.false)
    ] in
    sym (ap (λ (run : Run). left_after c.args.count run.entries) c.self.view_is)
    ∙ skipped i.bytes.now c.args.count i.left _ i.word i.start less _
    (sym c.in-Ok.ensures.value)

pub returns-in-Err-clause-cut : goal.returns-in-Err-clause-cut
returns-in-Err-clause-cut c =
    let i = c.self.inside in
    let less : IsLess c.args.count i.left c.if-count-self.count = elim c.if-count-self.branch [
      | then-count-self w ↦ inl (w.count-is, omega (arith, w.if-count-self.true))
      | else-count-self w ↦ inr (w.count-is, w.if-count-self.false)
    ] in (
      sym (ap (λ (run : Run). left_after c.args.count run.entries) c.self.view_is)
          ∙ skip_cut i.bytes.now c.args.count i.left _ i.word i.start less _
          (sym c.in-Err.ensures.value),
      ap (λ (run : Run). run.entries) c.end.ensures,
    )
