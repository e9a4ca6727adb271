use Rattle.std.proofs.Common.{refl, ap, ◌∙◌}
use Rattle.jsonb_functions.specs.Stripped.{stripped, items_stripped}
use Rattle.jsonb_functions.proofs.strip.StrippedOverlay.next_item.Goals as goal

pub returns-in_err-part-clause-first : goal.returns-in_err-part-clause-first
returns-in_err-part-clause-first c ts (us, (h, e)) =
    rw c.from_residual.ensures (e ∙ ap items_stripped (c.in_err-part.ensures.none us h))

pub returns-clause-first : goal.returns-clause-first
returns-clause-first c ts (us, (h, e)) =
    let f = c.in_ok-part.ensures.first us h in
    record {
      first = stripped f.first;
      others = items_stripped f.others;
      are = e ∙ ap items_stripped f.are;
      is = (f.first, (f.is, refl));
      left = (f.others, (f.later, refl));
    }
