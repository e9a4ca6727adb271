use Rattle.std.proofs.Common.{◌≡◌, ◌++◌, Err, ap, sym, ◌∙◌, rules}
use Rattle.jsonb_value.specs.Tree.{Tree}
use Rattle.jsonb_codec.specs.Doc.{Doc}
use Rattle.jsonb_codec.specs.Canon.{canon}
use Rattle.jsonb_codec.proofs.CanonLaws.{Doc-canon}
use Rattle.jsonb_codec.proofs.Rewriting.{canonical_same, canonical_twice, canonical_equal}
use Rattle.jsonb.specs.Raw.{raw_bytes}
use Rattle.jsonb.specs.Owned.{owned_bytes}
use Rattle.jsonb.proofs.CanonicalLaws.{not_rewritten}
use Rattle.jsonb.proofs.raw.RawJsonb.to_canonical.Goals as goal

pub returns-clause-value : goal.returns-clause-value
returns-clause-value c =
    let k = c.in_ok-append_canonical.ensures in
    let b = raw_bytes c.args.self.now in
    let h : (t : Tree) × Doc b t =
    rw c.as_bytes.ensures at k.document in
    let known = k.appended h.0 (rw c.as_bytes.ensures h.1) in (
      h.0,
      (
        h.1,
        (
          known.0,
          c.new.ensures ∙ known.1 ∙ ap
              (λ x. x ++ canon h.0) c.new-bytes.ensures.items,
        ),
      ),
    )

pub returns-in_err-append_canonical-clause-value :
    goal.returns-in_err-append_canonical-clause-value
returns-in_err-append_canonical-clause-value c =
    let e = c.in_err-append_canonical.field-0.0 in
    let refused : c.from_residual.result ≡ Err e = search rules in
    let limits = rw c.as_bytes.ensures at c.in_err-append_canonical.ensures.limits in
    rw refused (not_rewritten (raw_bytes c.args.self.now) e limits)

pub returns-clause-same : goal.returns-clause-same
returns-clause-same c =
    let b = raw_bytes c.args.self.now in
    let (t, (h, (fit, e))) = returns-clause-value c in
    let ok =
    c.in_ok-append_canonical.ensures.tree t (simp c.as_bytes.ensures h) in
    rw e (canonical_same b t ok h fit)

pub returns-clause-canonical : goal.returns-clause-canonical
returns-clause-canonical c =
    let (t, (h, (fit, e))) = returns-clause-value c in
    let ok =
    c.in_ok-append_canonical.ensures.tree t (simp c.as_bytes.ensures h) in
    (t, (ok, (fit, sym e)))

pub returns-clause-means : goal.returns-clause-means
returns-clause-means c t h =
    let k = c.in_ok-append_canonical.ensures in
    let again = rw (← c.as_bytes.ensures) at h in
    let known = k.appended t again in
    let e = c.new.ensures ∙ known.1 ∙ ap (λ x. x ++ canon t) c.new-bytes.ensures.items in
    rw e (Doc-canon t (k.tree t again) known.0)

pub returns-clause-equal : goal.returns-clause-equal
returns-clause-equal c t u h =
    let k = c.in_ok-append_canonical.ensures in
    let again = rw (← c.as_bytes.ensures) at h in
    let known = k.appended t again in
    let e = c.new.ensures ∙ known.1 ∙ ap (λ x. x ++ canon t) c.new-bytes.ensures.items in
    canonical_equal (owned_bytes c.new.result) t e (k.tree t again) known.0 u

pub returns-clause-twice : goal.returns-clause-twice
returns-clause-twice c =
    let (t, (h, (fit, e))) = returns-clause-value c in
    let ok =
    c.in_ok-append_canonical.ensures.tree t (simp c.as_bytes.ensures h) in
    canonical_twice (owned_bytes c.new.result) t e ok fit
