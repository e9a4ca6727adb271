use Rattle.std.proofs.Common.{◌<◌, ◌≤◌, ◌++◌, ◌∙◌, List, ℕ, ap, arith, length}
use Rattle.std.specs.List.{concat}
use Rattle.std.proofs.lemmas.List.{take_all}
use Rattle.typed_vector.specs.Cells.{rows}
use Rattle.typed_chunk.specs.Texts.{tails}
use Rattle.typed_chunk.proofs.SpanLaws.{concat_more, many_tails}
use Rattle.typed_chunk.proofs.spans.append_tails.Goals as goal

pub loop-index-preserved : goal.loop-index-preserved
loop-index-preserved c =
    let b = c.args.texts.now in
    let offsets = c.args.offsets.now in
    let texts = tails c.args.size (rows b offsets) in
    let inside : c.loop-index.index < length texts = omega (
      arith,
      many_tails c.args.size b offsets c.requires.spans,
      c.requires.many,
      c.loop-index-test.true,
    ) in
    concat_more c.args.out.now.items c.loop-index.out.items c.extend_from_slice.new.self.items
    c.tail_at.result.now texts c.loop-index.index inside c.loop-index.invariant c.tail_at.ensures
    c.in_ok-extend_from_slice.ensures.items

pub returns-clause-ok : goal.returns-clause-ok
returns-clause-ok c =
    let b = c.args.texts.now in
    let offsets = c.args.offsets.now in
    let texts = tails c.args.size (rows b offsets) in
    let all : length texts ≤ c.loop-index.index = omega (
      arith,
      many_tails c.args.size b offsets c.requires.spans,
      c.requires.many,
      c.loop-index-test.false,
    ) in
    c.loop-index.invariant
    ∙ ap (λ (ts : List (List ℕ)). c.args.out.now.items ++ concat ts)
    (take_all c.loop-index.index texts all)
