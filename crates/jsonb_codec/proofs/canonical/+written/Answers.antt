use Rattle.std.proofs.Common.{sym, refl, ◌∙◌, arith}
use Rattle.jsonb_codec.proofs.CanonicalSteps.{written_onward, written_back, none_written}
use Rattle.jsonb_codec.proofs.CanonicalSteps.{written_container}
use Rattle.jsonb_codec.proofs.Scalars.{iff_trans}
use Rattle.jsonb_codec.proofs.canonical.+written.Goals as goal

pub are_written-returns-then-not-is_written : goal.are_written-returns-then-not-is_written
are_written-returns-then-not-is_written t c ts h =
    let k = c.in-Some.ensures in
    let (us, (are, same)) = c.loop-child.invariant.same ts h in
    let f = k.first us are in (
      λ yes. cc,
      λ w.
          let yes = (c.is_written.ensures f.first f.is).1
          (written_onward f k.entries k.payloads k.short (same.1 w)).0 in
          let never = sym c.if-not-is_written.true ∙ yes in cc,
    )

pub are_written-loop-child-preserved : goal.are_written-loop-child-preserved
are_written-loop-child-preserved t c =
    let l = c.loop-child in let k = c.in-Some.ensures in
    record {
      same = λ ts h.
          let (us, (are, same)) = l.invariant.same ts h in
          let f = k.first us are in
          let is = (c.is_written.ensures f.first f.is).0 c.if-not-is_written.false in (
            f.others,
            (
              f.later,
              (
                λ w. same.0 (written_back f k.entries k.payloads k.short is w),
                λ w. (written_onward f k.entries k.payloads k.short (same.1 w)).1,
              ),
            ),
          );
      shorter = omega (arith, k.payloads_len, l.invariant.shorter);
    }

pub are_written-returns : goal.are_written-returns
are_written-returns t c ts h =
    let (us, (are, same)) = c.loop-child.invariant.same ts h in
    (λ yes. same.0 (none_written us _ _ (c.in_default.ensures.none us are) are), λ w. refl)

pub is_written-returns-in-1342177280 : goal.is_written-returns-in-1342177280
is_written-returns-in-1342177280 t c u h =
    let o = c.container.ensures.opened u h in
    iff_trans (c.are_written.ensures o.children o.are)
    (written_container u _ _ _ _ o c.container.ensures.bytes)
