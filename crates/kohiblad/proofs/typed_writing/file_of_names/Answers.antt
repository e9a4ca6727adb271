use Rattle.std.proofs.Common.{inl, inr, refl, subst}
use Rattle.kohiblad.specs.TypedWriting.{BuildsRows, file_result}
use Rattle.kohiblad.proofs.typed_writing.file_of_names.Goals as goal

pub returns-in-Ok-Some : goal.returns-in-Ok-Some
returns-in-Ok-Some c =
    inl (
      c.in-Ok-Some.plans.items,
      (
        rw c.in-Ok-Some.field-0-is at c.in-Ok-Some.ensures,
        subst
            (λ ps. BuildsRows c.args.depth c.args.rows ps (file_result c.file_of_plans.result))
            c.deref.ensures.value c.file_of_plans.ensures,
      ),
    )

pub returns-in-Ok-None : goal.returns-in-Ok-None
returns-in-Ok-None c = inr (inl (rw c.in-Ok-None.field-0-is at c.in-Ok-None.ensures, refl))
