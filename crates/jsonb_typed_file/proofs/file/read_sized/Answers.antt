use Rattle.std.proofs.Common.{rules, ◌≡◌, [], false, refl, sym, subst}
use Rattle.std.specs.Prelude.{IsTrue}
use Rattle.std.proofs.lemmas.List.{append-nil}
use Rattle.jsonb_typed_file.specs.File.{LengthsFit}
use Rattle.jsonb_typed_file.specs.Views.{layout_view}
use Rattle.jsonb_typed_file.specs.declared.error.FileError.TheVariants.{OutOfMemory}
use Rattle.jsonb_typed_file.specs.declared.layout.Layout.{Layout}
use Rattle.jsonb_typed_file.proofs.FormLaws.{not_both, only_memory}
use Rattle.jsonb_typed_file.proofs.LayoutLaws.{told}
use Rattle.jsonb_typed_file.proofs.ToldLaws.{fit_told, read_told, told_layout, unfit_told}
use Rattle.jsonb_typed_file.proofs.file.read_sized.Goals as goal

pub returns-in_err-layout-clause-memory : goal.returns-in_err-layout-clause-memory
returns-in_err-layout-clause-memory c f layout lengths =
    told c.from_residual.result c.in_err-layout.field-0.0 (λ e. e ≡ OutOfMemory)
    c.from_residual.ensures.1
    (only_memory c.in_err-layout.field-0.0 [] refl
    (c.in_err-layout.ensures.begun f c.args.bytes.now [] layout
    (sym (append-nil c.args.bytes.now))))

pub returns-then-not-lengths_fit-clause-memory : goal.returns-then-not-lengths_fit-clause-memory
returns-then-not-lengths_fit-clause-memory c f layout lengths =
    let (same, _) = c.in_ok-layout.ensures.same f c.args.bytes.now [] layout
    (sym (append-nil c.args.bytes.now)) in
    let failed : c.lengths_fit.result ≡ false = search rules in
    absurd (not_both c.lengths_fit.result failed
    (c.lengths_fit.ensures.1 (subst LengthsFit (sym same) lengths)))

pub returns-clause-same : goal.returns-clause-same
returns-clause-same c f layout lengths =
    (c.in_ok-layout.ensures.same f c.args.bytes.now [] layout
    (sym (append-nil c.args.bytes.now))).0

pub returns-in_err-layout-clause-layout : goal.returns-in_err-layout-clause-layout
returns-in_err-layout-clause-layout c =
    told_layout c.args.bytes.now c.from_residual.result c.in_err-layout.field-0.0
    c.from_residual.ensures.1
    (read_told c.args.bytes.now {A = Layout} c.in_err-layout.field-0.0
    c.in_err-layout.ensures.magic c.in_err-layout.ensures.version c.in_err-layout.ensures.begun
    c.in_err-layout.ensures.cut_refused c.in_err-layout.ensures.trailing
    c.in_err-layout.ensures.lengths)

pub returns-then-not-lengths_fit-clause-layout : goal.returns-then-not-lengths_fit-clause-layout
returns-then-not-lengths_fit-clause-layout c =
    let failed : c.lengths_fit.result ≡ false = search rules in
    unfit_told c.args.bytes.now c.in_ok-layout.layout (layout_view c.in_ok-layout.layout)
    c.in_ok-layout.ensures.magic c.in_ok-layout.ensures.version c.in_ok-layout.ensures.same
    c.in_ok-layout.ensures.cut_refused
    (λ fits. not_both c.lengths_fit.result failed (c.lengths_fit.ensures.1 fits))

pub returns-clause-layout : goal.returns-clause-layout
returns-clause-layout c =
    let held : IsTrue c.lengths_fit.result = search rules in
    fit_told c.args.bytes.now c.in_ok-layout.layout (layout_view c.in_ok-layout.layout)
    c.in_ok-layout.ensures.magic c.in_ok-layout.ensures.version c.in_ok-layout.ensures.same
    c.in_ok-layout.ensures.cut_refused (c.lengths_fit.ensures.0 held)
