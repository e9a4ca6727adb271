use Rattle.std.proofs.Common.{◌≡◌, ◌<◌, ◌≤◌, ◌∙◌, ℕ, Bool, List, ap, ap₂, arith}
use Rattle.std.proofs.Common.{false, get_or, length, length-set, rules, sym, take, true}
use Rattle.std.proofs.lemmas.List.{get_or-replicate, get_or_default, length-replicate}
use Rattle.std.proofs.lemmas.List.{take_all}
use Rattle.typed_vector.specs.ZoneMap.{set_values}
use Rattle.typed_vector.proofs.BlockLaws.{set_values-set, set_values-unset}
use Rattle.typed_chunk.specs.Places.{all_used, is_used}
use Rattle.typed_chunk.proofs.PlaceLaws.{mark_more, marks_all}
use Rattle.typed_chunk.proofs.places.all_used.Goals as goal

pub loop-index-init : goal.loop-index-init
loop-index-init c = λ k low.
    ap (λ (bs : List Bool). get_or bs k false) c.unset_all.ensures
    ∙ get_or-replicate {A = Bool} (length c.args.marks.now) k false false
    (omega (
      arith,
      low,
      ap length c.unset_all.ensures,
      length-replicate {A = Bool} (length c.args.marks.now) false,
    ))

pub loop-index-preserved-then-not-flag : goal.loop-index-preserved-then-not-flag
loop-index-preserved-then-not-flag c = λ k low.
    let places = c.args.places.now in
    let has = c.args.has.now in
    let index = c.loop-index.index in
    let none : get_or has index false ≡ false = first_of (search rules, grind arith) in
    let inside : index < length places = omega (arith, c.loop-index-test.true, c.requires.rows) in
    c.loop-index.invariant k low
    ∙ ap (λ (ps : List ℕ). is_used ps k)
    (set_values-unset places has index 0 (sym c.requires.rows) inside none)

pub loop-index-preserved : goal.loop-index-preserved
loop-index-preserved c = λ k low.
    let places = c.args.places.now in
    let has = c.args.has.now in
    let index = c.loop-index.index in
    let place = get_or places index 0 in
    let some : get_or has index false ≡ true = first_of (search rules, grind arith) in
    let inside : index < length places = omega (arith, c.loop-index-test.true, c.requires.rows) in
    let within : place < length c.loop-index.marks =
    omega (
      arith,
      c.requires.inside index 0 inside,
      c.loop-index.auto.marks,
      ap length c.unset_all.ensures,
      length-replicate {A = Bool} (length c.args.marks.now) false,
    ) in
    mark_more c.loop-index.marks (set_values (take index places) (take index has)) place within
    c.loop-index.invariant k
    (omega (arith, low, length-set c.loop-index.marks place true))
    ∙ ap (λ (ps : List ℕ). is_used ps k)
    (set_values-set places has index place (sym c.requires.rows) inside some
    (get_or_default places index 0 place inside))

pub returns : goal.returns
returns c =
    let places = c.args.places.now in
    let has = c.args.has.now in
    let index = c.loop-index.index in
    let marks = c.loop-index.marks in
    let past : length has ≤ index = c.loop-index-test.false in
    let all : set_values (take index places) (take index has) ≡ set_values places has =
    ap₂ set_values (take_all index places (omega (arith, past, c.requires.rows)))
    (take_all index has past) in
    let long : length marks ≡ length c.args.marks.now =
    omega (
      arith,
      c.loop-index.auto.marks,
      ap length c.unset_all.ensures,
      length-replicate {A = Bool} (length c.args.marks.now) false,
    ) in
    c.all_have.ensures
    ∙ marks_all marks (set_values (take index places) (take index has)) c.loop-index.invariant
    ∙ ap₂ all_used long all
