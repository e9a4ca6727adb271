use Rattle.std.proofs.Common.{refl, sym, ap, ◌∙◌}
use Rattle.jsonb_codec.specs.Doc.{type_of}
use Rattle.jsonb_functions.specs.Patched.{patched}
use Rattle.jsonb_functions.proofs.patch.changed.Goals as goal

pub returns-clause-next : goal.returns-clause-next
returns-clause-next c rs ps qs t u target patch before later h = record {
  first = patched t u;
  target = ps;
  patch = qs;
  are = h.1 (λ e. c.if-change-eq-NULL_TAG.false (sym patch.0 ∙ ap type_of e));
  is = ((t, u), ((target, patch), refl));
  left = (before, later);
}
