use Rattle.std.proofs.Common.{◌≡◌, ◌<◌, ◌+◌, ◌∙◌, List, [], ℕ, ap, arith, drop, false, fold}
use Rattle.std.proofs.Common.{get_or, length, rules, sym, true}
use Rattle.std.proofs.lemmas.List.{length-map}
use Rattle.typed_vector.specs.Cells.{rows}
use Rattle.typed_vector.specs.ZoneMap.{set_values}
use Rattle.typed_chunk.specs.Entries.{entries_of, with_entry}
use Rattle.typed_chunk.specs.Places.{texts_ascend}
use Rattle.typed_chunk.proofs.BeginningLaws.{none_left, set_here, unset_here}
use Rattle.typed_chunk.proofs.EntryLaws.{ascend-with, fold_longer}
use Rattle.typed_chunk.proofs.SearchLaws.{texts_of}
use Rattle.typed_chunk.proofs.SpanLaws.{many_spans}
use Rattle.typed_chunk.proofs.entries.entries_of.Goals as goal

-- One more text that is set.
one_more : (texts entries new : List (List ℕ)) (text : List ℕ) (has : _) (i : ℕ)
    → i < length texts → i < length has → get_or has i false ≡ true
    → text ≡ get_or texts i [] → new ≡ with_entry entries text
    → fold with_entry entries (set_values (drop i texts) (drop i has))
    ≡ entries_of (set_values texts has)
    → fold with_entry new (set_values (drop (i + 1) texts) (drop (i + 1) has))
    ≡ entries_of (set_values texts has)
one_more texts entries new text has i inside within some is put so_far =
    let rest = set_values (drop (i + 1) texts) (drop (i + 1) has) in
    ap (λ (es : List (List ℕ)). fold with_entry es rest) (put ∙ ap (with_entry entries) is)
    ∙ ap (fold with_entry entries) (sym (set_here texts has i inside within some))
    ∙ so_far

pub loop-index-preserved-then-not-flag : goal.loop-index-preserved-then-not-flag
loop-index-preserved-then-not-flag c =
    let texts = rows c.args.texts.now c.args.offsets.now in
    let has = c.args.has.now in
    let index = c.loop-index.index in
    let none : get_or has index false ≡ false = first_of (search rules, grind arith) in
    let inside : index < length texts = omega (
      arith,
      many_spans c.args.texts.now c.args.offsets.now c.requires.spans,
      c.requires.many,
      c.loop-index-test.true,
    ) in
    record {
      so_far = ap (fold with_entry (texts_of c.loop-index.entries.items))
          (sym (unset_here texts has index inside c.loop-index-test.true none))
          ∙ c.loop-index.invariant.so_far;
      ascend = c.loop-index.invariant.ascend;
      few = c.loop-index.invariant.few;
    }

pub returns-then-len-gt256-clause-none : goal.returns-then-len-gt256-clause-none
returns-then-len-gt256-clause-none c = λ _.
    let texts = rows c.args.texts.now c.args.offsets.now in
    let has = c.args.has.now in
    let index = c.loop-index.index in
    let some : get_or has index false ≡ true = first_of (search rules, grind arith) in
    let inside : index < length texts = omega (
      arith,
      many_spans c.args.texts.now c.args.offsets.now c.requires.spans,
      c.requires.many,
      c.loop-index-test.true,
    ) in
    let new = texts_of c.add_entry.new.entries.items in
    let rest = set_values (drop (index + 1) texts) (drop (index + 1) has) in
    let so_far : fold with_entry new rest ≡ entries_of (set_values texts has) =
    one_more texts (texts_of c.loop-index.entries.items) new c.text_at.result.now has index
    inside c.loop-index-test.true some c.text_at.ensures c.in_ok-add_entry.ensures
    c.loop-index.invariant.so_far in
    omega (
      arith,
      ap length so_far,
      fold_longer new rest,
      length-map c.add_entry.new.entries.items (λ entry. entry.now),
      c.len.ensures,
      c.if-len-gt256.true,
    )

pub loop-index-preserved : goal.loop-index-preserved
loop-index-preserved c =
    let texts = rows c.args.texts.now c.args.offsets.now in
    let has = c.args.has.now in
    let index = c.loop-index.index in
    let some : get_or has index false ≡ true = first_of (search rules, grind arith) in
    let inside : index < length texts = omega (
      arith,
      many_spans c.args.texts.now c.args.offsets.now c.requires.spans,
      c.requires.many,
      c.loop-index-test.true,
    ) in
    let before = texts_of c.loop-index.entries.items in
    record {
      so_far = one_more texts before (texts_of c.add_entry.new.entries.items)
          c.text_at.result.now has index inside c.loop-index-test.true some c.text_at.ensures
          c.in_ok-add_entry.ensures c.loop-index.invariant.so_far;
      ascend = ap texts_ascend c.in_ok-add_entry.ensures
          ∙ ascend-with c.text_at.result.now before c.loop-index.invariant.ascend;
      few = omega (arith, c.len.ensures, c.if-len-gt256.false);
    }

pub returns-clause-some : goal.returns-clause-some
returns-clause-some c =
    let texts = rows c.args.texts.now c.args.offsets.now in
    let has = c.args.has.now in
    ap (fold with_entry (texts_of c.loop-index.entries.items))
    (sym (none_left texts has c.loop-index.index c.loop-index-test.false))
    ∙ c.loop-index.invariant.so_far
