use Rattle.std.proofs.Common.{ap, ◌∙◌}
use Rattle.jsonb_value.specs.Tree.{pair_count}
use Rattle.jsonb_functions.specs.declared.overlay.Laid.TheVariants.{Kept, Changed}
use Rattle.jsonb_functions.proofs.OverlayLaws.{member_split, no_member}
use Rattle.jsonb_functions.proofs.overlay.LaidPartSource.split_member.Goals as goal

pub returns-in_err-key-in-Kept-clause-split : goal.returns-in_err-key-in-Kept-clause-split
returns-in_err-key-in-Kept-clause-split g c ss h =
    rw c.from_residual.ensures (no_member g.V.Meant.meaning (Kept c.in-Kept.members)
    c.in_err-key-in-Kept.ensures.none ss (rw c.in-Kept.is at h))

pub returns-in_err-key-in-Changed-clause-split : goal.returns-in_err-key-in-Changed-clause-split
returns-in_err-key-in-Changed-clause-split g c ss h =
    rw c.from_residual-in_err-key-in-Changed.ensures (no_member g.V.Meant.meaning
    (Changed c.in-Changed.counted) (λ ps are. c.in_err-key-in-Changed.ensures.first ps are.0) ss
    (rw c.in-Changed.is at h))

pub returns-in_ok-key-in-Kept-clause-split : goal.returns-in_ok-key-in-Kept-clause-split
returns-in_ok-key-in-Kept-clause-split g c ss h =
    let first = c.in_ok-key-in-Kept in
    member_split g.V.Meant.meaning g.V.Meant.laws _ (Kept c.in-Kept.members)
    (Kept first.field-0.later) (Kept first.field-0.value) first.field-0.key.now
    c.of_text.ensures.code (λ ps are.
    let f = first.ensures.first ps are in (f.value, (f.others, (f.are, (f.is, f.left)))))
    ss (rw c.in-Kept.is at h)

pub returns-in_ok-key-in-Changed-clause-split : goal.returns-in_ok-key-in-Changed-clause-split
returns-in_ok-key-in-Changed-clause-split g c ss h =
    let next = c.in_ok-key-in-Changed in
    member_split g.V.Meant.meaning g.V.Meant.laws _ (Changed c.in-Changed.counted)
    c.fewer.result next.field-0.value next.field-0.key.now c.of_text-in-Changed.ensures.code
    (λ ps are.
    let f = next.ensures.first ps are.0 in (
      f.first,
      (
        f.others,
        (
          f.are,
          (
            f.is,
            c.fewer.ensures.are f.others f.left (are.1 ∙ ap pair_count f.are),
          ),
        ),
      ),
    ))
    ss (rw c.in-Changed.is at h)
