use Rattle.std.specs.Int.{w128}
use Rattle.std.proofs.Common.{rules, to_z, of_z, ◌≡◌, option_map, sym, ap, subst, ◌∙◌}
use Rattle.jsonb_value.specs.Json.Numeral.{number_of}
use Rattle.jsonb_value.specs.Tree.{number}
use Rattle.jsonb_typed_file.specs.Values.{fixed_value}
use Rattle.jsonb_typed_file.specs.ValueViews.{stored_view}
use Rattle.jsonb_typed_file.proofs.fixed.fixed_value.Goals as goal

pub returns-in-Decimal : goal.returns-in-Decimal
returns-in-Decimal c =
    let kept : to_z w128 (of_z w128 c.decimal_in.result) ≡ c.decimal_in.result = search rules in
    subst (λ t. option_map stored_view c.number-in-Decimal.result
    ≡ fixed_value t c.args.bytes.now) (sym c.in-Decimal.is)
    (c.number-in-Decimal.ensures
    ∙ ap (λ v. option_map number (number_of c.in-Decimal.scale v))
    (kept ∙ c.decimal_in.ensures))
