use Rattle.std.proofs.Common.{◌≡◌, of_z, rules, to_z}
use Rattle.std.specs.Int.{w64}
use Rattle.typed_chunk.specs.Frame.{least_value}
use Rattle.typed_chunk.specs.Packed.{bits}
use Rattle.typed_chunk.proofs.SizeLaws.{frame_bytes}
use Rattle.typed_chunk.proofs.kinds.frame_size.Goals as goal

pub returns : goal.returns
returns c =
    let least = to_z w64 (of_z w64 c.least_value.result) in
    let low : least ≡ least_value c.args.values.now =
    search rules in
    frame_bytes c.args.values.now least c.write_heights.new.codes (bits c.width_of.result)
    c.packed_len.result low c.write_heights.ensures c.width_of.ensures.is c.packed_len.ensures
