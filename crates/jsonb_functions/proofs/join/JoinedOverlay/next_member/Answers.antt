use Rattle.std.proofs.Common.{refl, ◌∙◌}
use Rattle.jsonb_functions.specs.Joined.{merged}
use Rattle.jsonb_functions.proofs.join.JoinedOverlay.next_member.Goals as goal

pub returns-in_err-next-clause-first : goal.returns-in_err-next-clause-first
returns-in_err-next-clause-first c ps ((qs, rs), (h, e)) =
    rw c.from_residual.ensures (e ∙ c.in_err-next.ensures.first qs rs h.0 h.1)

pub returns-clause-first : goal.returns-clause-first
returns-clause-first c ps ((qs, rs), (h, e)) =
    let f = c.in_ok-next.ensures.first qs rs h.0 h.1 in
    record {
      first = f.first;
      others = merged f.left f.right;
      are = e ∙ f.are;
      is = f.is;
      left = ((f.left, f.right), ((f.left_are, f.right_are), refl));
    }
