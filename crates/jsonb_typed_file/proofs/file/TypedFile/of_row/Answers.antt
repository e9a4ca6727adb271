use Rattle.std.proofs.Common.{rules, ◌≡◌, ◌<◌, ◌⊎◌, Some, false, inr, sym, ap, subst, ◌∙◌, arith}
use Rattle.std.specs.Prelude.{IsErrAnd, IsTrue}
use Rattle.jsonb_typed_file.specs.File.{IsInForm, LengthsFit, NestWithin, row_count}
use Rattle.jsonb_typed_file.specs.OneRow.{IsRowOf, file_of_row}
use Rattle.jsonb_typed_file.specs.Views.{layout_view}
use Rattle.jsonb_typed_file.specs.declared.error.FileError.TheVariants.{OutOfForm}
use Rattle.jsonb_typed_file.specs.declared.error.FileError.TheVariants.{OutOfMemory, TooDeep}
use Rattle.jsonb_typed_file.proofs.FormLaws.{not_both}
use Rattle.jsonb_typed_file.proofs.LayoutLaws.{told, told_error}
use Rattle.jsonb_typed_file.proofs.OneRowLaws.{form_of_row, row_fits, row_of, row_within}
use Rattle.jsonb_typed_file.proofs.ToldLaws.{other_told, told_layout}
use Rattle.jsonb_typed_file.proofs.file.TypedFile.of_row.Goals as goal

pub returns-in_err-layout-clause-memory : goal.returns-in_err-layout-clause-memory
returns-in_err-layout-clause-memory c f layout lengths formed within =
    told c.from_residual.result c.in_err-layout.field-0.0 (λ e. e ≡ OutOfMemory)
    c.from_residual.ensures.1 (c.in_err-layout.ensures.memory f layout lengths)

pub returns-in_err-layout-clause-refused : goal.returns-in_err-layout-clause-refused
returns-in_err-layout-clause-refused c f layout lengths formed =
    told c.from_residual.result c.in_err-layout.field-0.0
    (λ e. (e ≡ TooDeep) ⊎ (e ≡ OutOfMemory)) c.from_residual.ensures.1
    (inr (c.in_err-layout.ensures.memory f layout lengths))

pub returns-in_err-layout-clause-deep : goal.returns-in_err-layout-clause-deep
returns-in_err-layout-clause-deep c refused f layout lengths within =
    c.in_err-layout.ensures.deep (told_error c.from_residual.result c.in_err-layout.field-0.0
    TooDeep c.from_residual.ensures.1 refused)

pub nest_deeper-requires : goal.nest_deeper-requires
nest_deeper-requires c =
    let all = layout_view c.in_ok-layout.layout in
    let low : c.args.index < row_count all = search rules in
    subst LengthsFit (sym c.in_ok-one.ensures)
    (row_fits all c.args.index c.in_ok-layout.ensures.lengths low)

pub is_in_form-requires : goal.is_in_form-requires
is_in_form-requires c =
    let all = layout_view c.in_ok-layout.layout in
    let low : c.args.index < row_count all = search rules in
    subst LengthsFit (sym c.in_ok-one.ensures)
    (row_fits all c.args.index c.in_ok-layout.ensures.lengths low)

pub returns-then-nest_deeper-clause-memory : goal.returns-then-nest_deeper-clause-memory
returns-then-nest_deeper-clause-memory c f layout lengths formed within =
    let same = c.in_ok-layout.ensures.same f layout lengths in
    let low : c.args.index < row_count (layout_view c.in_ok-layout.layout) = search rules in
    let one = c.in_ok-one.ensures ∙ ap (λ g. file_of_row g c.args.index) same in
    let deeper = rw c.if-nest_deeper.true at c.nest_deeper.ensures.deeper in
    absurd (deeper (subst (NestWithin (Some c.args.depth)) (sym one)
    (row_within c.args.depth f c.args.index lengths
    (subst (λ g. c.args.index < row_count g) same low) within)))

pub returns-then-nest_deeper-clause-deep : goal.returns-then-nest_deeper-clause-deep
returns-then-nest_deeper-clause-deep c refused f layout lengths within =
    let same = c.in_ok-layout.ensures.same f layout lengths in
    let low : c.args.index < row_count (layout_view c.in_ok-layout.layout) = search rules in
    let one = c.in_ok-one.ensures ∙ ap (λ g. file_of_row g c.args.index) same in
    let deeper = rw c.if-nest_deeper.true at c.nest_deeper.ensures.deeper in
    deeper (subst (NestWithin (Some c.args.depth)) (sym one)
    (row_within c.args.depth f c.args.index lengths
    (subst (λ g. c.args.index < row_count g) same low) within))

pub returns-then-not-is_in_form-clause-memory : goal.returns-then-not-is_in_form-clause-memory
returns-then-not-is_in_form-clause-memory c f layout lengths formed within =
    let same = c.in_ok-layout.ensures.same f layout lengths in
    let failed : c.is_in_form.result ≡ false = search rules in
    let low : c.args.index < row_count (layout_view c.in_ok-layout.layout) = search rules in
    let one = c.in_ok-one.ensures ∙ ap (λ g. file_of_row g c.args.index) same in
    absurd (not_both c.is_in_form.result failed
    (c.is_in_form.ensures.1 (subst IsInForm (sym one)
    (formed (subst (λ g. c.args.index < row_count g) same low)))))

pub returns-then-not-is_in_form-clause-refused : goal.returns-then-not-is_in_form-clause-refused
returns-then-not-is_in_form-clause-refused c f layout lengths formed =
    let same = c.in_ok-layout.ensures.same f layout lengths in
    let failed : c.is_in_form.result ≡ false = search rules in
    let low : c.args.index < row_count (layout_view c.in_ok-layout.layout) = search rules in
    let one = c.in_ok-one.ensures ∙ ap (λ g. file_of_row g c.args.index) same in
    absurd (not_both c.is_in_form.result failed
    (c.is_in_form.ensures.1 (subst IsInForm (sym one)
    (formed (subst (λ g. c.args.index < row_count g) same low)))))

pub returns-clause-form : goal.returns-clause-form
returns-clause-form c f layout lengths low =
    let same = c.in_ok-layout.ensures.same f layout lengths in
    let formed : IsTrue c.is_in_form.result = search rules in
    let one = c.in_ok-one.ensures ∙ ap (λ g. file_of_row g c.args.index) same in
    subst IsInForm one (c.is_in_form.ensures.0 formed)

pub returns-clause-row : goal.returns-clause-row
returns-clause-row c f layout lengths =
    let same = c.in_ok-layout.ensures.same f layout lengths in
    let low : c.args.index < row_count (layout_view c.in_ok-layout.layout) = search rules in
    let under = subst (λ g. c.args.index < row_count g) same low in
    let one = c.in_ok-one.ensures ∙ ap (λ g. file_of_row g c.args.index) same in (
      under,
      subst (IsRowOf f c.args.index) (sym one) (row_of f c.args.index lengths under),
    )

pub returns-clause-within : goal.returns-clause-within
returns-clause-within c =
    let formed : IsTrue c.is_in_form.result = search rules in
    let failed : c.nest_deeper.result ≡ false = search rules in
    let within = rw failed at c.nest_deeper.ensures.within in
    within (c.is_in_form.ensures.0 formed) 0

pub invariant_of-result : goal.invariant_of-result
invariant_of-result c =
    let formed : IsTrue c.is_in_form.result = search rules in
    let all = layout_view c.in_ok-layout.layout in
    let low : c.args.index < row_count all = search rules in (
      subst LengthsFit (sym c.in_ok-one.ensures)
          (row_fits all c.args.index c.in_ok-layout.ensures.lengths low),
      c.is_in_form.ensures.0 formed,
    )

pub returns-in_err-layout-clause-each : goal.returns-in_err-layout-clause-each
returns-in_err-layout-clause-each c f file =
    form_of_row f c.args.bytes.now c.args.index file

pub returns-in_err-one-clause-each : goal.returns-in_err-one-clause-each
returns-in_err-one-clause-each c f file =
    form_of_row f c.args.bytes.now c.args.index file

pub returns-then-nest_deeper-clause-each : goal.returns-then-nest_deeper-clause-each
returns-then-nest_deeper-clause-each c f file =
    form_of_row f c.args.bytes.now c.args.index file

pub returns-then-not-is_in_form-clause-each : goal.returns-then-not-is_in_form-clause-each
returns-then-not-is_in_form-clause-each c f file =
    form_of_row f c.args.bytes.now c.args.index file

pub returns-in_err-layout-clause-layout : goal.returns-in_err-layout-clause-layout
returns-in_err-layout-clause-layout c =
    told_layout c.args.bytes.now c.from_residual.result c.in_err-layout.field-0.0
    c.from_residual.ensures.1 c.in_err-layout.ensures.layout

pub returns-in_err-one-clause-layout : goal.returns-in_err-one-clause-layout
returns-in_err-one-clause-layout c =
    let is : IsErrAnd c.from_residual-in_err-one.result (λ e. e ≡ OutOfMemory) = search rules in
    told_layout c.args.bytes.now c.from_residual-in_err-one.result OutOfMemory is
    (other_told c.args.bytes.now OutOfMemory (omega arith) c.in_ok-layout.ensures.layout)

pub returns-then-nest_deeper-clause-layout : goal.returns-then-nest_deeper-clause-layout
returns-then-nest_deeper-clause-layout c =
    other_told c.args.bytes.now TooDeep (omega arith) c.in_ok-layout.ensures.layout

pub returns-then-not-is_in_form-clause-layout : goal.returns-then-not-is_in_form-clause-layout
returns-then-not-is_in_form-clause-layout c =
    other_told c.args.bytes.now OutOfForm (omega arith) c.in_ok-layout.ensures.layout
