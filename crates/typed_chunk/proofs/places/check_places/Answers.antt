use Rattle.std.proofs.Common.{◌≡◌, ◌∙◌, arith, false, length, rules, sym, true}
use Rattle.typed_vector.specs.Cells.{rows}
use Rattle.typed_vector.specs.ZoneMap.{set_values}
use Rattle.typed_chunk.specs.Places.{all_used, are_zeros}
use Rattle.typed_chunk.proofs.PlaceLaws.{check_below, check_passed, check_rest, check_used}
use Rattle.typed_chunk.proofs.PlaceLaws.{check_zeros}
use Rattle.typed_chunk.proofs.SpanLaws.{many_spans}
use Rattle.typed_chunk.proofs.places.check_places.Goals as goal

pub returns-then-not-all_below : goal.returns-then-not-all_below
returns-then-not-all_below c =
    let entries = rows c.args.entries.now c.args.offsets.now in
    let places = c.args.places.now in
    let has = c.args.has.now in
    let count = length c.args.marks.now in
    let many : length entries ≡ count =
    omega (
      arith,
      many_spans c.args.entries.now c.args.offsets.now c.requires.spans,
      c.requires.many,
    ) in
    let is_texts_ascend : c.texts_ascend.result ≡ true = first_of (search rules, grind arith) in
    let is_all_below : c.all_below.result ≡ false = first_of (search rules, grind arith) in
    sym (check_below entries places has count many (sym c.texts_ascend.ensures ∙ is_texts_ascend)
    (sym c.all_below.ensures ∙ is_all_below))

pub returns-then-not-are_zeros : goal.returns-then-not-are_zeros
returns-then-not-are_zeros c =
    let entries = rows c.args.entries.now c.args.offsets.now in
    let places = c.args.places.now in
    let has = c.args.has.now in
    let count = length c.args.marks.now in
    let many : length entries ≡ count =
    omega (
      arith,
      many_spans c.args.entries.now c.args.offsets.now c.requires.spans,
      c.requires.many,
    ) in
    let is_texts_ascend : c.texts_ascend.result ≡ true = first_of (search rules, grind arith) in
    let is_all_below : c.all_below.result ≡ true = first_of (search rules, grind arith) in
    let is_are_zeros : c.are_zeros.result ≡ false = first_of (search rules, grind arith) in
    sym (check_rest entries places has count many (sym c.texts_ascend.ensures ∙ is_texts_ascend)
    (sym c.all_below.ensures ∙ is_all_below)
    ∙ check_zeros (are_zeros places has) (all_used count (set_values places has))
    (sym c.are_zeros.ensures ∙ is_are_zeros))

pub returns-then-not-all_used : goal.returns-then-not-all_used
returns-then-not-all_used c =
    let entries = rows c.args.entries.now c.args.offsets.now in
    let places = c.args.places.now in
    let has = c.args.has.now in
    let count = length c.args.marks.now in
    let many : length entries ≡ count =
    omega (
      arith,
      many_spans c.args.entries.now c.args.offsets.now c.requires.spans,
      c.requires.many,
    ) in
    let is_texts_ascend : c.texts_ascend.result ≡ true = first_of (search rules, grind arith) in
    let is_all_below : c.all_below.result ≡ true = first_of (search rules, grind arith) in
    let is_are_zeros : c.are_zeros.result ≡ true = first_of (search rules, grind arith) in
    let is_all_used : c.all_used.result ≡ false = first_of (search rules, grind arith) in
    sym (check_rest entries places has count many (sym c.texts_ascend.ensures ∙ is_texts_ascend)
    (sym c.all_below.ensures ∙ is_all_below)
    ∙ check_used (are_zeros places has) (all_used count (set_values places has))
    (sym c.are_zeros.ensures ∙ is_are_zeros) (sym c.all_used.ensures ∙ is_all_used))

pub returns : goal.returns
returns c =
    let entries = rows c.args.entries.now c.args.offsets.now in
    let places = c.args.places.now in
    let has = c.args.has.now in
    let count = length c.args.marks.now in
    let many : length entries ≡ count =
    omega (
      arith,
      many_spans c.args.entries.now c.args.offsets.now c.requires.spans,
      c.requires.many,
    ) in
    let is_texts_ascend : c.texts_ascend.result ≡ true = first_of (search rules, grind arith) in
    let is_all_below : c.all_below.result ≡ true = first_of (search rules, grind arith) in
    let is_are_zeros : c.are_zeros.result ≡ true = first_of (search rules, grind arith) in
    let is_all_used : c.all_used.result ≡ true = first_of (search rules, grind arith) in
    sym (check_rest entries places has count many (sym c.texts_ascend.ensures ∙ is_texts_ascend)
    (sym c.all_below.ensures ∙ is_all_below)
    ∙ check_passed (are_zeros places has) (all_used count (set_values places has))
    (sym c.are_zeros.ensures ∙ is_are_zeros) (sym c.all_used.ensures ∙ is_all_used))
