use Rattle.std.proofs.Common.{rules, ◌≡◌, chars, Err, ap}
use Rattle.jsonb_value.proofs.Json.SpelledLaws.{same_meaning}
use Rattle.jsonb_codec.specs.Canon.{canon}
use Rattle.jsonb.specs.Owned.{owned_bytes}
use Rattle.jsonb.proofs.ParseLaws.{parsed_as, refused}
use Rattle.jsonb.proofs.owned.OwnedJsonb.parse_under.Goals as goal

pub returns-in_err-encode_text-clause-value : goal.returns-in_err-encode_text-clause-value
returns-in_err-encode_text-clause-value c =
    let is : c.from_residual.result ≡ Err c.in_err-encode_text.field-0.0 = search rules in
    let known = c.in_err-encode_text.ensures in
    rw is (refused c.args.exponents c.args.text.now _ (λ e. known.invalid (ap Err e))
    (λ e. known.past (ap Err e)) known.only)

pub returns-in_err-encode_text-clause-one : goal.returns-in_err-encode_text-clause-one
returns-in_err-encode_text-clause-one c =
    same_meaning c.args.exponents (chars c.args.text.now)

pub returns-clause-one : goal.returns-clause-one
returns-clause-one c = same_meaning c.args.exponents (chars c.args.text.now)

pub returns-clause-value : goal.returns-clause-value
returns-clause-value c =
    let (t, (json, (is, (fits, same)))) = c.in_ok-encode_text.ensures.ok in
    let bytes : owned_bytes c.new.result ≡ canon t = search rules in
    (t, (json, (fits, bytes)))

pub returns-clause-parsed : goal.returns-clause-parsed
returns-clause-parsed c =
    let (u, (json, (is, (fits, same)))) = c.in_ok-encode_text.ensures.ok in
    parsed_as c.args.exponents c.args.text.now (owned_bytes c.new.result) u json is fits
    (search rules)
