use Rattle.std.proofs.Common.{◌≡◌, ◌++◌, take}
use Rattle.std.specs.List.{concat}
use Rattle.typed_vector.specs.Cells.{rows}
use Rattle.typed_chunk.specs.Texts.{tails}
use Rattle.typed_chunk.proofs.spans.append_tails.Given as goal

abbrev pub invariant-loop-index : goal.invariant-loop-index
invariant-loop-index l = l.out.items
    ≡ l.fn.out.items ++ concat (take l.index (tails l.size (rows l.texts l.offsets)))
