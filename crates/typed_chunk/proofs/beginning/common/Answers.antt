use Rattle.std.proofs.Common.{◌≡◌, ◌<◌, ◌+◌, ◌∙◌, List, ℕ, ap, arith, drop, false, fold, get_or}
use Rattle.std.proofs.Common.{length, rules, sym, true}
use Rattle.typed_vector.specs.Cells.{rows}
use Rattle.typed_vector.specs.ZoneMap.{set_values}
use Rattle.typed_chunk.specs.Texts.{shared}
use Rattle.typed_chunk.proofs.BeginningLaws.{set_here, unset_here}
use Rattle.typed_chunk.proofs.SpanLaws.{many_spans}
use Rattle.typed_chunk.proofs.beginning.common.Goals as goal

pub loop-index-preserved-then-not-flag : goal.loop-index-preserved-then-not-flag
loop-index-preserved-then-not-flag c =
    let texts = rows c.args.texts.now c.args.offsets.now in
    let has = c.args.has.now in
    let index = c.loop-index.index in
    let none : get_or has index false ≡ false = first_of (search rules, grind arith) in
    let inside : index < length texts = omega (
      arith,
      many_spans c.args.texts.now c.args.offsets.now c.requires.spans,
      c.requires.many,
      c.loop-index-test.true,
    ) in
    ap (fold shared c.loop-index.start.now)
    (sym (unset_here texts has index inside c.loop-index-test.true none))
    ∙ c.loop-index.invariant

pub loop-index-preserved : goal.loop-index-preserved
loop-index-preserved c =
    let texts = rows c.args.texts.now c.args.offsets.now in
    let has = c.args.has.now in
    let index = c.loop-index.index in
    let start = c.loop-index.start.now in
    let some : get_or has index false ≡ true = first_of (search rules, grind arith) in
    let inside : index < length texts = omega (
      arith,
      many_spans c.args.texts.now c.args.offsets.now c.requires.spans,
      c.requires.many,
      c.loop-index-test.true,
    ) in
    let rest = set_values (drop (index + 1) texts) (drop (index + 1) has) in
    ap (λ (xs : List ℕ). fold shared xs rest)
    (c.shared-start.ensures ∙ ap (shared start) c.text_at.ensures)
    ∙ ap (fold shared start) (sym (set_here texts has index inside c.loop-index-test.true some))
    ∙ c.loop-index.invariant
