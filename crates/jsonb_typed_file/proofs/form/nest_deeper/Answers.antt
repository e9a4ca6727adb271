use Rattle.std.proofs.Common.{sym, subst}
use Rattle.std.specs.Bool.{OnFalse}
use Rattle.jsonb_typed_file.specs.File.{IsInForm, NestWithin}
use Rattle.jsonb_typed_file.specs.Views.{layout_view}
use Rattle.jsonb_typed_file.proofs.FormLaws.{if_false}
use Rattle.jsonb_typed_file.proofs.form.nest_deeper.Goals as goal

pub returns-in-Some-clause-within : goal.returns-in-Some-clause-within
returns-in-Some-clause-within c =
    subst (λ d. OnFalse c.rests_nest_deeper.result (IsInForm (layout_view c.args.layout.now)
    → NestWithin d (layout_view c.args.layout.now))) (sym c.in-Some.is)
    (if_false c.rests_nest_deeper.result _ _
    (λ each form index low. each index low (form.rests index low))
    c.rests_nest_deeper.ensures.within)
