use Rattle.std.proofs.Common.{rules, ◌≡◌, ◌++◌, ℕ, List, map, sym, ap, subst, ◌∙◌, arith}
use Rattle.std.specs.Prelude.{IsErrAnd}
use Rattle.std.specs.List.{AllZip}
use Rattle.jsonb_typed_file.specs.File.{row_count}
use Rattle.jsonb_typed_file.specs.Layout.{columns_bytes}
use Rattle.jsonb_typed_file.specs.Places.{IsColumnAt}
use Rattle.jsonb_typed_file.specs.Views.{buffers_view, layout_view}
use Rattle.jsonb_typed_file.specs.declared.buffers.Buffers.{Buffers}
use Rattle.jsonb_typed_file.specs.declared.error.FileError.TheVariants.{OutOfMemory}
use Rattle.jsonb_typed_file.proofs.LayoutLaws.{told}
use Rattle.jsonb_typed_file.proofs.PlaceLaws.{before_columns, before_length, behind_columns}
use Rattle.jsonb_typed_file.proofs.ToldLaws.{other_told, told_layout}
use Rattle.jsonb_typed_file.proofs.places.column_places.Goals as goal

pub returns-in_err-layout-clause-memory : goal.returns-in_err-layout-clause-memory
returns-in_err-layout-clause-memory c f layout lengths =
    told c.from_residual.result c.in_err-layout.field-0.0 (λ e. e ≡ OutOfMemory)
    c.from_residual.ensures.1 (c.in_err-layout.ensures.memory f layout lengths)

pub returns-clause-places : goal.returns-clause-places
returns-clause-places c =
    let f = layout_view c.in_ok-layout.layout in
    let bytes = c.args.bytes.now in
    let layout = c.in_ok-layout.ensures.ok in
    let items = c.in_ok-places_of.field-0.items in
    let all = c.in_ok-places_of.ensures (before_columns f) bytes (before_length f)
    (behind_columns f bytes layout
    ∙ ap (λ (cs : List Buffers). before_columns f ++ columns_bytes (map buffers_view cs))
    (sym c.deref.ensures.value)) in (
      f,
      (
        layout,
        (
          c.in_ok-layout.ensures.lengths,
          subst
              (λ (cs : List Buffers). AllZip (IsColumnAt bytes (row_count f)) (map buffers_view cs)
              items)
              c.deref.ensures.value
              (subst
              (λ (n : ℕ). AllZip (IsColumnAt bytes n) (map buffers_view c.deref.result.now) items)
              c.rows.ensures all),
        ),
      ),
    )

pub returns-in_err-layout-clause-layout : goal.returns-in_err-layout-clause-layout
returns-in_err-layout-clause-layout c =
    told_layout c.args.bytes.now c.from_residual.result c.in_err-layout.field-0.0
    c.from_residual.ensures.1 c.in_err-layout.ensures.layout

pub returns-in_err-places_of-clause-layout : goal.returns-in_err-places_of-clause-layout
returns-in_err-places_of-clause-layout c =
    let is : IsErrAnd c.from_residual-in_err-places_of.result (λ e. e ≡ OutOfMemory) =
    search rules in
    told_layout c.args.bytes.now c.from_residual-in_err-places_of.result OutOfMemory is
    (other_told c.args.bytes.now OutOfMemory (omega arith) c.in_ok-layout.ensures.layout)
