use Rattle.std.proofs.Common.{subst}
use Rattle.std.specs.Bool.{OnTrue}
use Rattle.std.specs.Prelude.{◌↔◌}
use Rattle.jsonb_codec.specs.Depth.{IsDocumentWithin}
use Rattle.jsonb_codec.specs.Doc.{IsDocument}
use Rattle.jsonb_typed_file.proofs.FormLaws.{if_false}
use Rattle.jsonb_typed_file.proofs.form.nests_deeper_at.Goals as goal

pub returns-in-Some-clause-deeper : goal.returns-in-Some-clause-deeper
returns-in-Some-clause-deeper c =
    subst (λ b. OnTrue c.nests_deeper.result (IsDocumentWithin c.args.depth b → ⊥))
    c.in-Some.ensures.1 c.nests_deeper.ensures.deeper

pub returns-in-Some-clause-within : goal.returns-in-Some-clause-within
returns-in-Some-clause-within c =
    if_false c.nests_deeper.result _ _
    (λ exact rest. (subst (λ b. IsDocument b ↔ IsDocumentWithin c.args.depth b)
    c.in-Some.ensures.1 exact).0 rest.1)
    c.nests_deeper.ensures.within
