use Rattle.std.proofs.Common.{◌∷◌}
use Rattle.jsonb_value.specs.declared.number.Number.{Number}
use Rattle.jsonb_value.specs.NumCode.{NumCode}
use Rattle.jsonb_value.proofs.Codes.{IfNone-from, signed_after, unsigned_after}
use Rattle.jsonb_value.proofs.number.number_of_tag.Goals as goal

pub returns-in_err-signed_of-in-64-clause-none : goal.returns-in_err-signed_of-in-64-clause-none
returns-in_err-signed_of-in-64-clause-none c =
    IfNone-from _ ((x : Number) → NumCode (c.args.tag ∷ _) x → ⊥) (λ x h.
    let found = signed_after _ _ x c.in-64.is h in
    c.in_err-signed_of-in-64.ensures.none found.0 found.1)

pub returns-in_err-unsigned_of-in-80-clause-none : goal.returns-in_err-unsigned_of-in-80-clause-none
returns-in_err-unsigned_of-in-80-clause-none c =
    IfNone-from _ ((x : Number) → NumCode (c.args.tag ∷ _) x → ⊥) (λ x h.
    let found = unsigned_after _ _ x c.in-80.is h in
    c.in_err-unsigned_of-in-80.ensures.none found.0 found.1)
