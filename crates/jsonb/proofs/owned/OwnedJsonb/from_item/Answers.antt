use Rattle.std.proofs.Common.{◌≡◌, ◌↔◌, ◌<◌, ◌^◌, ℕ, List, length, subst, sym, ap, ◌∙◌}
use Rattle.std.specs.Prelude.{IfOk}
use Rattle.jsonb_codec.specs.Code.{code_of}
use Rattle.jsonb.specs.Code.{CanBeStored, scalar_bytes}
use Rattle.jsonb.specs.ItemView.{item_view}
use Rattle.jsonb.specs.Owned.{owned_bytes}
use Rattle.jsonb.specs.Storage.{stored_code}
use Rattle.jsonb.proofs.ItemDocuments.{made_also, means_item, scalar_alone}
use Rattle.jsonb.proofs.owned.OwnedJsonb.from_item.Goals as goal

-- A scalar is stored by its entry, whose contents are consistent.
pub returns-in_default : goal.returns-in_default
returns-in_default c =
    let x = item_view c.args.item in
    let alone = scalar_alone c.args.item c.in_default.not-Raw c.in_default.not-Owned in
    let made = c.of_scalar in
    let code : code_of c.code.result ≡ stored_code x = c.code.ensures.code in
    let bytes = ap (λ (p : ℕ × List ℕ). scalar_bytes p.0 p.1) code ∙ alone.0 in
    record {
      ok = subst (λ (b : List ℕ). IfOk made.result (λ owned. owned_bytes owned ≡ b)) bytes
          made.ensures.ok;
      means = means_item x c.code.ensures.held;
      limits = made_also made.result
          (subst (λ (p : ℕ × List ℕ). (length p.1 < 2 ^ 28) ↔ CanBeStored x) (sym code) alone.1)
          made.ensures.limits;
    }
