use Rattle.std.proofs.Common.{◌≤◌, ◌++◌, ◌∙◌, ℕ, List, ap, length, subst, sym}
use Rattle.typed_vector.specs.Cells.{rows}
use Rattle.typed_vector.specs.ZoneMap.{set_values}
use Rattle.typed_chunk.specs.Texts.{begun}
use Rattle.typed_chunk.proofs.BeginningLaws.{common_short}
use Rattle.typed_chunk.proofs.texts.append_texts.Goals as goal

pub append_begun-requires-clause-low : goal.append_begun-requires-clause-low
append_begun-requires-clause-low c =
    let texts = rows c.args.texts.now c.args.offsets.now in
    subst (λ start. length start ≤ 255) (sym c.common-start.ensures)
    (common_short 255 (set_values texts c.args.has.now))

pub returns-in-Ok : goal.returns-in-Ok
returns-in-Ok c =
    let texts = rows c.args.texts.now c.args.offsets.now in
    c.in-Ok.ensures.ok
    ∙ ap (λ (start : List ℕ). c.args.out.now.items ++ begun start texts) c.common-start.ensures
