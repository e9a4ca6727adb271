use Rattle.std.proofs.Common.{arith}
use Rattle.typed_vector.proofs.BinaryLaws.{row_between}
use Rattle.typed_vector.proofs.rows.row_at.Goals as goal

pub slice_bounds-result-count : goal.slice_bounds-result-count
slice_bounds-result-count c =
    (row_between c.args.bytes.now c.args.offsets.now c.args.index c.requires.ascending
    c.requires.within).low

pub slice_bounds-result-start : goal.slice_bounds-result-start
slice_bounds-result-start c =
    let at = row_between c.args.bytes.now c.args.offsets.now c.args.index c.requires.ascending
    c.requires.within in
    omega (arith, at.low, at.high)

pub slice_bounds-result-end : goal.slice_bounds-result-end
slice_bounds-result-end c =
    let at = row_between c.args.bytes.now c.args.offsets.now c.args.index c.requires.ascending
    c.requires.within in
    omega (arith, at.low, at.high)

pub returns : goal.returns
returns c =
    (row_between c.args.bytes.now c.args.offsets.now c.args.index c.requires.ascending
    c.requires.within).row
