use Rattle.std.proofs.Common.{◌≡◌, [], arith, ap, length, ◌∙◌, get_or, false, sym, Some}
use Rattle.std.specs.Prelude.{slice_get}
use Rattle.std.proofs.lemmas.List.{get_or_default, get_or_read}
use Rattle.typed_vector.specs.Cells.{rest_cell, rows, value}
use Rattle.typed_vector.proofs.BinaryLaws.{binary_there}
use Rattle.typed_vector.proofs.CellLaws.{rest_shown, value_shown}
use Rattle.typed_vector.proofs.binaries.Binaries.row_within.Goals as goal

pub index-requires : goal.index-requires
index-requires c =
    let s = c.self.inside in
    let t = binary_there s.values.items s.value_offsets.items s.is_set.items s.rest c.args.index
    c.self.invariant (omega (arith, c.requires, ap length c.self.view_is)) in
    omega (arith, t.there.flag, s.is_set.ok)

pub row_at-requires-clause-within : goal.row_at-requires-clause-within
row_at-requires-clause-within c =
    let s = c.self.inside in
    let t = binary_there s.values.items s.value_offsets.items s.is_set.items s.rest c.args.index
    c.self.invariant (omega (arith, c.requires, ap length c.self.view_is)) in
    omega (arith, t.bytes, ap length c.deref-then-index.ensures.value)

pub returns-then-index : goal.returns-then-index
returns-then-index c =
    let s = c.self.inside in
    let t = binary_there s.values.items s.value_offsets.items s.is_set.items s.rest c.args.index
    c.self.invariant (omega (arith, c.requires, ap length c.self.view_is)) in
    let is : c.index.result.now ≡ get_or s.is_set.items c.args.index false =
    get_or_read s.is_set.items c.args.index c.index.result.now t.there.flag c.index.ensures false in
    let values = rows s.values.items s.value_offsets.items in
    let bytes : c.row_at.result.now ≡ get_or values c.args.index [] =
    rw (← c.deref.ensures.value, ← c.deref-then-index.ensures.value) c.row_at.ensures in
    ap (λ bytes. Some (value bytes)) bytes
    ∙ value_shown values s.is_set.items s.rest c.args.index t.there
    (get_or values c.args.index [])
    (get_or_default values c.args.index [] (get_or values c.args.index []) t.there.value)
    (sym is ∙ c.if-index.true)
    ∙ ap (λ rows. slice_get rows c.args.index) c.self.view_is

pub returns-else-index : goal.returns-else-index
returns-else-index c =
    let s = c.self.inside in
    let t = binary_there s.values.items s.value_offsets.items s.is_set.items s.rest c.args.index
    c.self.invariant (omega (arith, c.requires, ap length c.self.view_is)) in
    let is : c.index.result.now ≡ get_or s.is_set.items c.args.index false =
    get_or_read s.is_set.items c.args.index c.index.result.now t.there.flag c.index.ensures false in
    ap Some (c.other_content.ensures ∙ ap rest_cell c.at.ensures)
    ∙ rest_shown (rows s.values.items s.value_offsets.items) s.is_set.items s.rest c.args.index
    t.there [] (sym is ∙ c.if-index.false)
    ∙ ap (λ rows. slice_get rows c.args.index) c.self.view_is
