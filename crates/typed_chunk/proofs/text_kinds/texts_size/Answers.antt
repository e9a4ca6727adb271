use Rattle.std.proofs.Common.{◌≤◌, ◌∙◌, length, subst, sym}
use Rattle.typed_vector.specs.Cells.{rows}
use Rattle.typed_vector.specs.ZoneMap.{set_values}
use Rattle.typed_chunk.proofs.BeginningLaws.{common_short}
use Rattle.typed_chunk.proofs.TextChunkLaws.{texts_long}
use Rattle.typed_chunk.proofs.text_kinds.texts_size.Goals as goal

pub begun_size-requires-clause-low : goal.begun_size-requires-clause-low
begun_size-requires-clause-low c =
    let texts = rows c.args.texts.now c.args.offsets.now in
    subst (λ start. length start ≤ 255) (sym c.common-start.ensures)
    (common_short 255 (set_values texts c.args.has.now))

pub returns-clause-is : goal.returns-clause-is
returns-clause-is c =
    let texts = rows c.args.texts.now c.args.offsets.now in
    c.begun_size.ensures.is
    ∙ texts_long texts c.args.has.now c.common-start.result.now c.write_lengths.new.lengths
    c.common-start.ensures c.write_lengths.ensures
