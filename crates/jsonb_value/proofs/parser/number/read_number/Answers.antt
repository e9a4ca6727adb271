use Rattle.std.proofs.Common.{rules, sym, ◌∙◌, ap, chars}
use Rattle.std.specs.Prelude.{option_map}
use Rattle.jsonb_value.proofs.Json.NumberSteps.{has_parts, number_too_large, number_past_scale}
use Rattle.jsonb_value.proofs.Json.NumberSteps.{number_out_of_range, number_of_parts}
use Rattle.jsonb_value.proofs.parser.number.read_number.Goals as goal

pub returns-in_err-digits-2 : goal.returns-in_err-digits-2
returns-in_err-digits-2 c =
    let parts = has_parts c.args.exponents
    (chars c.args.text.now) _ _ _ _ _ _ c.in_ok-digits.digits c.in_ok-exponent.exponent
    c.read_sign-is_negative.ensures c.in_ok-whole.ensures c.in_ok-digits.ensures
    c.in_ok-exponent.ensures in
    ap (option_map _) c.from_residual-in_err-digits-2.ensures
    ∙ sym (number_too_large _ _ _ _ _ _ parts c.in_err-digits-2.was)

pub returns-in_err-scale : goal.returns-in_err-scale
returns-in_err-scale c =
    let parts = has_parts c.args.exponents
    (chars c.args.text.now) _ _ _ _ _ _ c.in_ok-digits.digits c.in_ok-exponent.exponent
    c.read_sign-is_negative.ensures c.in_ok-whole.ensures c.in_ok-digits.ensures
    c.in_ok-exponent.ensures in
    ap (option_map _) c.from_residual-in_err-scale.ensures
    ∙ sym (number_past_scale _ _ _ _ _ _ parts _ c.in_ok-digits-2.was
    (c.in_err-scale.ensures _ _ parts.is_integer))

pub returns-in_err-value : goal.returns-in_err-value
returns-in_err-value c =
    let parts = has_parts c.args.exponents
    (chars c.args.text.now) _ _ _ _ _ _ c.in_ok-digits.digits c.in_ok-exponent.exponent
    c.read_sign-is_negative.ensures c.in_ok-whole.ensures c.in_ok-digits.ensures
    c.in_ok-exponent.ensures in
    ap (option_map _) c.from_residual-in_err-value.ensures
    ∙ sym (number_out_of_range _ _ _ _ _ _ parts _ c.in_ok-scale.scale _ _ c.in_ok-digits-2.was
    (c.in_ok-scale.ensures _ _ parts.is_integer) c.signed.ensures c.in_err-value.was)

pub returns-in_err-number : goal.returns-in_err-number
returns-in_err-number c =
    let parts = has_parts c.args.exponents
    (chars c.args.text.now) _ _ _ _ _ _ c.in_ok-digits.digits c.in_ok-exponent.exponent
    c.read_sign-is_negative.ensures c.in_ok-whole.ensures c.in_ok-digits.ensures
    c.in_ok-exponent.ensures in
    ap (option_map _) c.from_residual-in_err-number.ensures
    ∙ sym (number_of_parts _ _ _ _ _ _ parts _ c.in_ok-scale.scale _ _ _ _ c.in_ok-digits-2.was
    (c.in_ok-scale.ensures _ _ parts.is_integer) c.signed.ensures c.in_ok-value.was
    c.in_err-number.ensures (search rules))

pub returns : goal.returns
returns c =
    let parts = has_parts c.args.exponents
    (chars c.args.text.now) _ _ _ _ _ _ c.in_ok-digits.digits c.in_ok-exponent.exponent
    c.read_sign-is_negative.ensures c.in_ok-whole.ensures c.in_ok-digits.ensures
    c.in_ok-exponent.ensures in
    sym (number_of_parts _ _ _ _ _ _ parts _ c.in_ok-scale.scale _ _ _ _ c.in_ok-digits-2.was
    (c.in_ok-scale.ensures _ _ parts.is_integer) c.signed.ensures c.in_ok-value.was
    c.in_ok-number.ensures (search rules))
