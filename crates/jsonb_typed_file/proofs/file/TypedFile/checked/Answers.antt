use Rattle.std.proofs.Common.{rules, ◌≡◌, false, sym, subst, ◌⊎◌, inr, arith}
use Rattle.jsonb_typed_file.specs.File.{IsInForm, NestWithin}
use Rattle.jsonb_typed_file.specs.declared.error.FileError.TheVariants.{OutOfForm, OutOfMemory}
use Rattle.jsonb_typed_file.specs.declared.error.FileError.TheVariants.{TooDeep}
use Rattle.jsonb_typed_file.proofs.FormLaws.{form_or_memory, not_both}
use Rattle.jsonb_typed_file.proofs.LayoutLaws.{told, told_error}
use Rattle.jsonb_typed_file.proofs.ToldLaws.{other_told, told_layout}
use Rattle.jsonb_typed_file.proofs.file.TypedFile.checked.Goals as goal

pub returns-in_err-layout-clause-memory : goal.returns-in_err-layout-clause-memory
returns-in_err-layout-clause-memory c f file =
    told c.from_residual.result c.in_err-layout.field-0.0 (λ e. e ≡ OutOfMemory)
    c.from_residual.ensures.1 (c.in_err-layout.ensures.memory f file.file.layout file.file.lengths)

pub returns-in_err-layout-clause-form : goal.returns-in_err-layout-clause-form
returns-in_err-layout-clause-form c refused f file =
    form_or_memory c.in_err-layout.field-0.0
    (told_error c.from_residual.result c.in_err-layout.field-0.0 OutOfForm
    c.from_residual.ensures.1 refused)
    (c.in_err-layout.ensures.memory f file.layout file.lengths)

pub returns-then-not-is_in_form-clause-memory : goal.returns-then-not-is_in_form-clause-memory
returns-then-not-is_in_form-clause-memory c f file =
    let same = c.in_ok-layout.ensures.same f file.file.layout file.file.lengths in
    let failed : c.is_in_form.result ≡ false = search rules in
    absurd (not_both c.is_in_form.result failed
    (c.is_in_form.ensures.1 (subst IsInForm (sym same) file.file.form)))

pub returns-then-not-is_in_form-clause-form : goal.returns-then-not-is_in_form-clause-form
returns-then-not-is_in_form-clause-form c refused f file =
    let same = c.in_ok-layout.ensures.same f file.layout file.lengths in
    let failed : c.is_in_form.result ≡ false = search rules in
    not_both c.is_in_form.result failed
    (c.is_in_form.ensures.1 (subst IsInForm (sym same) file.form))

pub returns-clause-same : goal.returns-clause-same
returns-clause-same c f file = c.in_ok-layout.ensures.same f file.file.layout file.file.lengths

pub returns-in_err-layout-clause-deep : goal.returns-in_err-layout-clause-deep
returns-in_err-layout-clause-deep c refused f layout lengths within =
    c.in_err-layout.ensures.deep (told_error c.from_residual.result c.in_err-layout.field-0.0
    TooDeep c.from_residual.ensures.1 refused)

pub returns-in_err-layout-clause-refused : goal.returns-in_err-layout-clause-refused
returns-in_err-layout-clause-refused c f file =
    told c.from_residual.result c.in_err-layout.field-0.0
    (λ e. (e ≡ TooDeep) ⊎ (e ≡ OutOfMemory)) c.from_residual.ensures.1
    (inr (c.in_err-layout.ensures.memory f file.layout file.lengths))

pub returns-then-nest_deeper-clause-memory : goal.returns-then-nest_deeper-clause-memory
returns-then-nest_deeper-clause-memory c f file =
    let same = c.in_ok-layout.ensures.same f file.file.layout file.file.lengths in
    let deeper = rw c.if-nest_deeper.true at c.nest_deeper.ensures.deeper in
    absurd (deeper (subst (NestWithin c.args.depth) (sym same) file.shallow))

pub returns-then-nest_deeper-clause-deep : goal.returns-then-nest_deeper-clause-deep
returns-then-nest_deeper-clause-deep c refused f layout lengths within =
    let same = c.in_ok-layout.ensures.same f layout lengths in
    let deeper = rw c.if-nest_deeper.true at c.nest_deeper.ensures.deeper in
    deeper (subst (NestWithin c.args.depth) (sym same) within)

pub returns-then-not-is_in_form-clause-refused : goal.returns-then-not-is_in_form-clause-refused
returns-then-not-is_in_form-clause-refused c f file =
    let same = c.in_ok-layout.ensures.same f file.layout file.lengths in
    let failed : c.is_in_form.result ≡ false = search rules in
    absurd (not_both c.is_in_form.result failed
    (c.is_in_form.ensures.1 (subst IsInForm (sym same) file.form)))

pub returns-in_err-layout-clause-layout : goal.returns-in_err-layout-clause-layout
returns-in_err-layout-clause-layout c =
    told_layout c.args.bytes.now c.from_residual.result c.in_err-layout.field-0.0
    c.from_residual.ensures.1 c.in_err-layout.ensures.layout

pub returns-then-nest_deeper-clause-layout : goal.returns-then-nest_deeper-clause-layout
returns-then-nest_deeper-clause-layout c =
    other_told c.args.bytes.now TooDeep (omega arith) c.in_ok-layout.ensures.layout

pub returns-then-not-is_in_form-clause-layout : goal.returns-then-not-is_in_form-clause-layout
returns-then-not-is_in_form-clause-layout c =
    other_told c.args.bytes.now OutOfForm (omega arith) c.in_ok-layout.ensures.layout
