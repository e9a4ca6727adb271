use Rattle.std.proofs.Common.{◌≡◌, ◌≤◌, ◌+◌, ◌-◌, ◌∙◌, [], ℕ, ap, ap₂, arith, drop, false}
use Rattle.std.proofs.Common.{get_or, length, rules, sym, true}
use Rattle.std.specs.Cmp.Lexicographic.{slice_cmp}
use Rattle.std.specs.Ordering.{is_lt, nat_cmp}
use Rattle.typed_vector.specs.Cells.{rows}
use Rattle.typed_chunk.specs.Places.{texts_ascend}
use Rattle.typed_chunk.proofs.PlaceLaws.{ascend_end, ascend_more, ascend_not}
use Rattle.typed_chunk.proofs.SpanLaws.{many_spans}
use Rattle.typed_chunk.proofs.places.texts_ascend.Goals as goal

pub returns-then-not-is_lt : goal.returns-then-not-is_lt
returns-then-not-is_lt c =
    let b = c.args.texts.now in
    let offsets = c.args.offsets.now in
    let texts = rows b offsets in
    let index = c.loop-index.index in
    let many = many_spans b offsets c.requires in
    let is : c.cmp.result
    ≡ slice_cmp nat_cmp (get_or texts (index - 2) []) (get_or texts (index - 1) []) =
    c.cmp.ensures ∙ ap₂ (slice_cmp nat_cmp) c.text_at-before.ensures c.text_at.ensures in
    let none : c.is_lt.result ≡ false = first_of (search rules, grind arith) in
    let other
    : is_lt (slice_cmp nat_cmp (get_or texts (index - 2) []) (get_or texts (index - 1) []))
    ≡ false = ap is_lt (sym is) ∙ sym c.is_lt.ensures ∙ none in
    sym (ascend_not texts (index - 2) (index - 1)
    (omega (arith, c.loop-index.auto.index))
    (omega (arith, c.loop-index-test.true, many, c.loop-index.auto.index)) other)
    ∙ c.loop-index.invariant

pub loop-index-preserved : goal.loop-index-preserved
loop-index-preserved c =
    let b = c.args.texts.now in
    let offsets = c.args.offsets.now in
    let texts = rows b offsets in
    let index = c.loop-index.index in
    let many = many_spans b offsets c.requires in
    let is : c.cmp.result
    ≡ slice_cmp nat_cmp (get_or texts (index - 2) []) (get_or texts (index - 1) []) =
    c.cmp.ensures ∙ ap₂ (slice_cmp nat_cmp) c.text_at-before.ensures c.text_at.ensures in
    let some : c.is_lt.result ≡ true = first_of (search rules, grind arith) in
    let less
    : is_lt (slice_cmp nat_cmp (get_or texts (index - 2) []) (get_or texts (index - 1) []))
    ≡ true = ap is_lt (sym is) ∙ sym c.is_lt.ensures ∙ some in
    let next : index + 1 - 2 ≡ index - 1 = omega (arith, c.loop-index.auto.index) in
    ap (λ (n : ℕ). texts_ascend (drop n texts)) next
    ∙ sym (ascend_more texts (index - 2) (index - 1)
    (omega (arith, c.loop-index.auto.index))
    (omega (arith, c.loop-index-test.true, many, c.loop-index.auto.index)) less)
    ∙ c.loop-index.invariant

pub returns : goal.returns
returns c =
    let b = c.args.texts.now in
    let offsets = c.args.offsets.now in
    let texts = rows b offsets in
    let index = c.loop-index.index in
    let many = many_spans b offsets c.requires in
    let past : length texts ≤ index - 2 + 1 =
    omega (arith, c.loop-index-test.false, many, c.loop-index.auto.index) in
    sym (ascend_end texts (index - 2) past) ∙ c.loop-index.invariant
