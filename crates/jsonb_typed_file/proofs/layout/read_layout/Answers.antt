use Rattle.std.proofs.Common.{◌≡◌, ◌≢◌, ◌⊎◌, Err, [], inr, sym, ap}
use Rattle.jsonb_typed_file.specs.declared.error.FileError.TheVariants.{BadMagic, Cut}
use Rattle.jsonb_typed_file.specs.declared.error.FileError.TheVariants.{OutOfMemory, TrailingData}
use Rattle.jsonb_typed_file.proofs.LayoutLaws.{behind_documents, behind_header, behind_offsets}
use Rattle.jsonb_typed_file.proofs.LayoutLaws.{columns_cut, header_cut, layout_parts, no_true}
use Rattle.jsonb_typed_file.proofs.LayoutLaws.{same_contents, told, told_error, told_refusal}
use Rattle.jsonb_typed_file.proofs.LayoutLaws.{trailing}
use Rattle.jsonb_typed_file.proofs.layout.read_layout.Goals as goal

pub returns-in_err-count-clause-begun : goal.returns-in_err-count-clause-begun
returns-in_err-count-clause-begun c f front more layout is =
    absurd (no_true (c.in_err-count.ensures.begun _ _ layout.few
    (layout_parts f front more c.args.bytes.now layout is)))

pub returns-in_err-documents-clause-begun : goal.returns-in_err-documents-clause-begun
returns-in_err-documents-clause-begun c f front more layout is =
    let behind = behind_header f front more c.args.bytes.now c.in_ok-count.later.now
    c.in_ok-count.count layout is c.in_ok-count.ensures.few c.in_ok-count.ensures.ok in
    let (_, documents) = behind_offsets f front more c.in_ok-count.later.now
    c.in_ok-offsets.offsets.now c.in_ok-offsets.later.now c.in_ok-count.count layout behind
    c.in_ok-offsets.ensures.short c.in_ok-offsets.ensures.ok in
    absurd (no_true (c.in_err-documents.ensures.begun _ _ layout.documents documents))

pub returns-in_err-columns-clause-begun : goal.returns-in_err-columns-clause-begun
returns-in_err-columns-clause-begun c f front more layout is =
    let behind = behind_header f front more c.args.bytes.now c.in_ok-count.later.now
    c.in_ok-count.count layout is c.in_ok-count.ensures.few c.in_ok-count.ensures.ok in
    let (_, documents) = behind_offsets f front more c.in_ok-count.later.now
    c.in_ok-offsets.offsets.now c.in_ok-offsets.later.now c.in_ok-count.count layout behind
    c.in_ok-offsets.ensures.short c.in_ok-offsets.ensures.ok in
    let (_, columns) = behind_documents f front more c.in_ok-offsets.later.now
    c.in_ok-documents.documents.now c.in_ok-documents.later.now layout documents
    c.in_ok-documents.ensures.short c.in_ok-documents.ensures.ok in
    told c.from_residual-in_err-columns.result c.in_err-columns.field-0.0
    (λ e. (e ≡ OutOfMemory) ⊎ ((e ≡ TrailingData) × (more ≢ [])))
    c.from_residual-in_err-columns.ensures.1
    (c.in_err-columns.ensures.begun f.columns more layout.columns (sym behind.count) columns)

pub returns-in_err-columns-clause-trailing : goal.returns-in_err-columns-clause-trailing
returns-in_err-columns-clause-trailing c refused =
    let error = told_error c.from_residual-in_err-columns.result c.in_err-columns.field-0.0
    TrailingData c.from_residual-in_err-columns.ensures.1 refused in
    trailing c.in_ok-count.count c.args.bytes.now c.in_ok-count.later.now
    c.in_ok-offsets.offsets.now c.in_ok-offsets.later.now c.in_ok-documents.documents.now
    c.in_ok-documents.later.now c.in_ok-count.ensures.few c.in_ok-count.ensures.ok
    c.in_ok-offsets.ensures.short c.in_ok-offsets.ensures.ok c.in_ok-documents.ensures.short
    c.in_ok-documents.ensures.ok (c.in_err-columns.ensures.trailing (ap Err error))

pub returns-clause-same : goal.returns-clause-same
returns-clause-same c f front more layout is =
    let behind = behind_header f front more c.args.bytes.now c.in_ok-count.later.now
    c.in_ok-count.count layout is c.in_ok-count.ensures.few c.in_ok-count.ensures.ok in
    let (offsets, documents) = behind_offsets f front more c.in_ok-count.later.now
    c.in_ok-offsets.offsets.now c.in_ok-offsets.later.now c.in_ok-count.count layout behind
    c.in_ok-offsets.ensures.short c.in_ok-offsets.ensures.ok in
    let (rests, columns) = behind_documents f front more c.in_ok-offsets.later.now
    c.in_ok-documents.documents.now c.in_ok-documents.later.now layout documents
    c.in_ok-documents.ensures.short c.in_ok-documents.ensures.ok in
    let (same, none) = c.in_ok-columns.ensures.same f.columns more layout.columns
    (sym behind.count) columns in
    (same_contents _ f offsets rests same, none)

pub returns-in_err-count-clause-cut_refused : goal.returns-in_err-count-clause-cut_refused
returns-in_err-count-clause-cut_refused c cut =
    told_refusal c.from_residual.result c.in_err-count.field-0.0
    (λ e. (e ≡ BadMagic) ⊎ ((e ≡ Cut) ⊎ (e ≡ OutOfMemory))) c.from_residual.ensures.1
    (header_cut c.args.bytes.now c.in_err-count.field-0.0 cut c.in_err-count.ensures.only
    (λ is. c.in_err-count.ensures.version.0 (ap Err is)))

pub returns-in_err-columns-clause-cut_refused : goal.returns-in_err-columns-clause-cut_refused
returns-in_err-columns-clause-cut_refused c cut =
    let (count, columns) = columns_cut c.args.bytes.now c.in_ok-count.later.now
    c.in_ok-offsets.offsets.now c.in_ok-offsets.later.now c.in_ok-documents.documents.now
    c.in_ok-documents.later.now c.in_ok-count.count cut c.in_ok-count.ensures.few
    c.in_ok-count.ensures.ok c.in_ok-offsets.ensures.short c.in_ok-offsets.ensures.ok
    c.in_ok-documents.ensures.short c.in_ok-documents.ensures.ok in
    told_refusal c.from_residual-in_err-columns.result c.in_err-columns.field-0.0
    (λ e. (e ≡ BadMagic) ⊎ ((e ≡ Cut) ⊎ (e ≡ OutOfMemory)))
    c.from_residual-in_err-columns.ensures.1
    (inr (c.in_err-columns.ensures.cut cut.file.columns cut.more cut.layout.columns count columns
    cut.some))

pub returns-clause-cut_refused : goal.returns-clause-cut_refused
returns-clause-cut_refused c cut =
    let (count, columns) = columns_cut c.args.bytes.now c.in_ok-count.later.now
    c.in_ok-offsets.offsets.now c.in_ok-offsets.later.now c.in_ok-documents.documents.now
    c.in_ok-documents.later.now c.in_ok-count.count cut c.in_ok-count.ensures.few
    c.in_ok-count.ensures.ok c.in_ok-offsets.ensures.short c.in_ok-offsets.ensures.ok
    c.in_ok-documents.ensures.short c.in_ok-documents.ensures.ok in
    c.in_ok-columns.ensures.cut cut.file.columns cut.more cut.layout.columns count columns cut.some
