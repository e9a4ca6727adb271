use Rattle.std.proofs.Common.{rules, ◌≡◌, Err}
use Rattle.jsonb_value.proofs.DepthLaws.{depth_of_spelled}
use Rattle.jsonb_codec.specs.Canon.{canon}
use Rattle.jsonb.specs.Owned.{owned_bytes}
use Rattle.jsonb.proofs.ParseLaws.{document_within, near_of, parsed_as, refused_as}
use Rattle.jsonb.proofs.owned.OwnedJsonb.parse_under_within.Goals as goal

pub returns-in_err-encode_text_within-clause-value :
    goal.returns-in_err-encode_text_within-clause-value
returns-in_err-encode_text_within-clause-value c =
    let is : c.from_residual.result ≡ Err c.in_err-encode_text_within.field-0.0 = search rules in
    let known = c.in_err-encode_text_within.ensures in
    rw is (refused_as _ c.args.exponents c.args.depth c.args.text.now _ known.deep known.invalid
    known.past known.only)

pub returns-clause-value : goal.returns-clause-value
returns-clause-value c =
    let (t, (json, (is, (fits, same)))) = c.in_ok-encode_text_within.ensures.ok in
    let bytes : owned_bytes c.new.result ≡ canon t = search rules in
    (near_of _ _ _ _ c.in_ok-encode_text_within.ensures.deep, (t, (json, (fits, bytes))))

pub returns-clause-parsed : goal.returns-clause-parsed
returns-clause-parsed c =
    let (u, (json, (is, (fits, same)))) = c.in_ok-encode_text_within.ensures.ok in
    parsed_as c.args.exponents c.args.text.now (owned_bytes c.new.result) u json is fits
    (search rules)

pub returns-clause-within : goal.returns-clause-within
returns-clause-within c =
    let (t, (json, (is, (fits, same)))) = c.in_ok-encode_text_within.ensures.ok in
    let bytes : owned_bytes c.new.result ≡ canon t = search rules in
    let parsed = parsed_as c.args.exponents c.args.text.now (owned_bytes c.new.result) t json is
    fits bytes in
    document_within c.args.exponents c.args.text.now (owned_bytes c.new.result) t c.args.depth
    (depth_of_spelled c.args.exponents c.args.text.now c.utf8.text) json
    (parsed.means t json) (near_of _ _ _ _ c.in_ok-encode_text_within.ensures.deep)
