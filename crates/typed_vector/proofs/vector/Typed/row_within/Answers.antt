use Rattle.std.proofs.Common.{◌≡◌, arith, ap, length, ◌∙◌, get_or, false, sym, Some}
use Rattle.std.specs.Prelude.{slice_get}
use Rattle.std.proofs.lemmas.List.{get_or_read}
use Rattle.typed_vector.specs.Cells.{rest_cell}
use Rattle.typed_vector.proofs.CellLaws.{is_there, rest_shown, value_shown}
use Rattle.typed_vector.proofs.vector.Typed.row_within.Goals as goal

pub index-requires : goal.index-requires
index-requires g c =
    let s = c.self.inside in
    let t = is_there s.values.items s.is_set.items s.rest c.args.index c.self.invariant
    (omega (arith, c.requires, ap length c.self.view_is)) in
    omega (arith, t.flag, s.is_set.ok)

pub index-requires-then-index : goal.index-requires-then-index
index-requires-then-index g c =
    let s = c.self.inside in
    let t = is_there s.values.items s.is_set.items s.rest c.args.index c.self.invariant
    (omega (arith, c.requires, ap length c.self.view_is)) in
    omega (arith, t.value, s.values.ok)

pub returns-then-index : goal.returns-then-index
returns-then-index g c =
    let s = c.self.inside in
    let t = is_there s.values.items s.is_set.items s.rest c.args.index c.self.invariant
    (omega (arith, c.requires, ap length c.self.view_is)) in
    let is : c.index.result.now ≡ get_or s.is_set.items c.args.index false =
    get_or_read s.is_set.items c.args.index c.index.result.now t.flag c.index.ensures false in
    value_shown s.values.items s.is_set.items s.rest c.args.index t c.index-then-index.result.now
    c.index-then-index.ensures (sym is ∙ c.if-index.true)
    ∙ ap (λ rows. slice_get rows c.args.index) c.self.view_is

pub returns-else-index : goal.returns-else-index
returns-else-index g c =
    let s = c.self.inside in
    let t = is_there s.values.items s.is_set.items s.rest c.args.index c.self.invariant
    (omega (arith, c.requires, ap length c.self.view_is)) in
    let is : c.index.result.now ≡ get_or s.is_set.items c.args.index false =
    get_or_read s.is_set.items c.args.index c.index.result.now t.flag c.index.ensures false in
    ap Some (c.other_content.ensures ∙ ap rest_cell c.at.ensures)
    ∙ rest_shown s.values.items s.is_set.items s.rest c.args.index t s.blank
    (sym is ∙ c.if-index.false)
    ∙ ap (λ rows. slice_get rows c.args.index) c.self.view_is
