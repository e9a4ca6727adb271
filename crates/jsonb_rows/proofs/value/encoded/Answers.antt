use Rattle.std.proofs.Common.{rules, ◌≡◌, subst, sym}
use Rattle.jsonb_value.specs.Norm.{norm}
use Rattle.jsonb_value.specs.Value.{tree_of}
use Rattle.jsonb_codec.specs.Canon.{canon}
use Rattle.jsonb_codec.specs.Doc.{Doc}
use Rattle.jsonb.specs.Owned.{owned_bytes}
use Rattle.jsonb_rows.proofs.value.encoded.Goals as goal

pub returns-clause-document : goal.returns-clause-document
returns-clause-document c =
    let t = tree_of c.args.value.now in
    let is : owned_bytes c.new-2.result ≡ canon t = search rules in
    let known = c.in_ok-encode.ensures in
    (norm t, subst (λ b. Doc b (norm t)) (sym is) (known.means t known.tree known.limits.fits))
