use Rattle.std.proofs.Common.{◌≡◌, ◌-◌, Bool, List, arith, length, replicate, take, true}
use Rattle.std.proofs.lemmas.List.{take-replicate}
use Rattle.typed_chunk.specs.Packed.{bits}
use Rattle.typed_chunk.proofs.SpanLaws.{many_spans}
use Rattle.typed_chunk.proofs.TextChunkLaws.{dictionary_long}
use Rattle.typed_chunk.proofs.text_kinds.dictionary_size.Goals as goal
use Rattle.typed_vector.specs.Cells.{rows}

pub returns : goal.returns
returns c =
    let entries = rows c.args.entries.now c.args.offsets.now in
    let count = length c.args.offsets.now - 1 in
    let all : List Bool = take count (replicate 256 true) in
    let many : length entries ≡ count =
    omega (arith, many_spans c.args.entries.now c.args.offsets.now c.requires.spans) in
    dictionary_long entries c.args.codes.now all count (bits c.of.result)
    c.texts_size-size.result c.packed_len-places.result many
    (take-replicate count 256 true (omega (arith, c.requires.most))) c.of.ensures.is
    c.texts_size-size.ensures.is c.packed_len-places.ensures
