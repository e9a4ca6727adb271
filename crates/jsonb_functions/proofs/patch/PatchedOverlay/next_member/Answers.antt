use Rattle.std.proofs.Common.{refl, ◌∙◌}
use Rattle.jsonb_functions.specs.Patched.{pairs_patched}
use Rattle.jsonb_functions.proofs.patch.PatchedOverlay.next_member.Goals as goal

pub returns-in_err-key-clause-first : goal.returns-in_err-key-clause-first
returns-in_err-key-clause-first c ps ((qs, rs), (h, e)) =
    rw c.from_residual.ensures (e ∙ c.in_err-key.ensures.first qs rs h)

pub returns-clause-first : goal.returns-clause-first
returns-clause-first c ps ((qs, rs), (h, e)) =
    let f = c.in_ok-key.ensures.first qs rs h in
    record {
      first = f.first;
      others = pairs_patched f.target f.patch;
      are = e ∙ f.are;
      is = f.is;
      left = ((f.target, f.patch), (f.left, refl));
    }
