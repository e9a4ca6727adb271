use Rattle.std.proofs.Common.{refl, ◌∙◌}
use Rattle.jsonb_functions.specs.Stripped.{stripped, members_stripped}
use Rattle.jsonb_functions.proofs.strip.StrippedOverlay.next_member.Goals as goal

pub returns-in_err-key-clause-first : goal.returns-in_err-key-clause-first
returns-in_err-key-clause-first c ps (qs, (h, e)) =
    rw c.from_residual.ensures (e ∙ c.in_err-key.ensures.first qs h)

pub returns-clause-first : goal.returns-clause-first
returns-clause-first c ps (qs, (h, e)) =
    let f = c.in_ok-key.ensures.first qs h in
    record {
      first = stripped f.first;
      others = members_stripped f.others;
      are = e ∙ f.are;
      is = (f.first, (f.is, refl));
      left = (f.others, (f.left, refl));
    }
