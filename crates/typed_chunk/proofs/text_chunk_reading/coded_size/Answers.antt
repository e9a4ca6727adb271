use Rattle.std.proofs.Common.{◌≡◌, ◌-◌, arith, length}
use Rattle.typed_chunk.specs.Packed.{bits}
use Rattle.typed_chunk.proofs.SpanLaws.{many_spans}
use Rattle.typed_chunk.proofs.TextChunkReadLaws.{coded_long}
use Rattle.typed_chunk.proofs.text_chunk_reading.coded_size.Goals as goal
use Rattle.typed_vector.specs.Cells.{rows}

pub returns : goal.returns
returns c =
    let entries = rows c.args.entries.now c.args.offsets.now in
    let count = length c.args.offsets.now - 1 in
    let many : length entries ≡ count =
    omega (arith, many_spans c.args.entries.now c.args.offsets.now c.requires.spans) in
    coded_long c.args.start.now entries c.args.codes.now c.write_lengths.new.lengths count
    (bits c.of.result) c.begun_size-size.result c.packed_len-places.result many
    (omega (arith, c.requires.some)) c.requires.form c.write_lengths.ensures c.of.ensures.is
    c.begun_size-size.ensures.is c.packed_len-places.ensures
