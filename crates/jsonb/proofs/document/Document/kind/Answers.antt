use Rattle.std.proofs.Common.{◌≡◌, Ok, rules, refl, ap, ◌∙◌}
use Rattle.jsonb.proofs.DocumentLaws.{tree_of_bytes}
use Rattle.jsonb.proofs.KindLaws.{array_kind, object_kind, scalar_kind}
use Rattle.jsonb.proofs.NodeLaws.{scalar_opened}
use Rattle.jsonb.proofs.document.Document.kind.Goals as goal

pub returns-in-2147483648-default : goal.returns-in-2147483648-default
returns-in-2147483648-default c =
    let is : 2147483648 ≡ c.header.result.0 = search rules in
    array_kind _ _ _ (tree_of_bytes _ c.args.self.now refl)
    (ap (λ kind. Ok (kind, c.header.result.1)) is ∙ c.header.ensures.value)

pub returns-in-1073741824-default : goal.returns-in-1073741824-default
returns-in-1073741824-default c =
    let is : 1073741824 ≡ c.header.result.0 = search rules in
    object_kind _ _ _ (tree_of_bytes _ c.args.self.now refl)
    (ap (λ kind. Ok (kind, c.header.result.1)) is ∙ c.header.ensures.value)

pub returns-in_default : goal.returns-in_default
returns-in_default c =
    scalar_kind _ c.part.result.type_code c.of_scalar.result c.part.ensures.means.0
    (scalar_opened _ _ c.header.result.0 c.header.result.1 (tree_of_bytes _ c.args.self.now refl)
    c.header.ensures.value (search rules) (search rules))
    c.of_scalar.ensures
