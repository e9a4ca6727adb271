use Rattle.std.proofs.Common.{rules, ◌≡◌, false, inr, refl}
use Rattle.jsonb_typed_file.proofs.FormLaws.{not_both}
use Rattle.jsonb_typed_file.proofs.stored.value_in.Goals as goal

pub returns-else-is_scalar : goal.returns-else-is_scalar
returns-else-is_scalar c =
    let failed : c.is_scalar.result ≡ false = search rules in
    inr (λ is. not_both c.is_scalar.result failed (c.is_scalar.ensures.1 is), refl)
