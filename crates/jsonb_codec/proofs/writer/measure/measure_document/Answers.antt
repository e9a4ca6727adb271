use Rattle.std.proofs.Common.{ℕ, Option, Some, None, IfSome, IfNone, IfOk, OnErr, subst, sym, arith}
use Rattle.std.proofs.Common.{◌≡◌, length}
use Rattle.std.specs.Option.{ok_or}
use Rattle.std.proofs.lemmas.Option.{IfSome_then}
use Rattle.jsonb_value.specs.declared.error.Error.{Error}
use Rattle.jsonb_codec.specs.Shape.{ShapeFits, document}
use Rattle.jsonb_codec.proofs.Shapes.{IfNone_then, leaf_document, array_short, object_short}
use Rattle.jsonb_codec.proofs.writer.measure.measure_document.Goals as goal
use Rattle.jsonb_codec.proofs.writer.measure.measure_document.Goals.{in-Leaf, in-Array, in-Object}

IfOk-ok_or : (P : ℕ → Type 0) (o : Option ℕ) (e : Error) → IfSome o P → IfOk (ok_or o e) P
IfOk-ok_or P (Some x) e h = h
IfOk-ok_or P None e h = tt

OnErr-ok_or : (P : Type 0) (o : Option ℕ) (e : Error) → IfNone o P → OnErr (ok_or o e) P
OnErr-ok_or P (Some x) e h = tt
OnErr-ok_or P None e h = h

pub returns-clause-ok : goal.returns-clause-ok
returns-clause-ok g c = rw c.ok_or.ensures.value (IfOk-ok_or _ c.match-level.end _
    (elim c.match-level.branch [
      | in-Leaf w ↦ rw w.end-is (IfSome_then w.entry_end-end.result w.entry_end-end.ensures.some
          (λ n known s is. rw (rw w.in-Leaf.is at is) (
            omega (arith, known.1, w.len.ensures),
            omega (arith, known.0, w.len.ensures, leaf_document),
          )))
      | in-Array w ↦ rw w.end-is (IfSome_then w.measure_array-end.result
          w.measure_array-end.ensures.some
          (λ n known s is. let (ss, (e, h)) = rw w.in-Array.is at is in
          let (fit, long) = known ss h in
          subst (λ s. ShapeFits s × (n ≡ length (document s))) (sym e) (fit, omega (arith, long))))
      | in-Object w ↦ rw w.end-is (IfSome_then w.measure_object-end.result
          w.measure_object-end.ensures.some
          (λ n known s is. let (ss, (e, h)) = rw w.in-Object.is at is in
          let (fit, long) = known ss h in
          subst (λ s. ShapeFits s × (n ≡ length (document s))) (sym e) (fit, omega (arith, long))))
    ]))

pub returns-clause-err : goal.returns-clause-err
returns-clause-err g c = rw c.ok_or.ensures.value (OnErr-ok_or _ c.match-level.end _
    (elim c.match-level.branch [
      | in-Leaf w ↦ rw w.end-is (IfNone_then w.entry_end-end.result w.entry_end-end.ensures.none
          (λ long s is fits.
          let short = rw (rw w.in-Leaf.is at is) at fits in
          absurd (omega (arith, long, w.len.ensures, short))))
      | in-Array w ↦ rw w.end-is (IfNone_then w.measure_array-end.result
          w.measure_array-end.ensures.none (λ past s is fits.
          let (ss, (e, h)) = rw w.in-Array.is at is in
          let fit = subst ShapeFits e fits in
          absurd (omega (arith, past ss h fit, array_short ss fit))))
      | in-Object w ↦ rw w.end-is (IfNone_then w.measure_object-end.result
          w.measure_object-end.ensures.none (λ past s is fits.
          let (ss, (e, h)) = rw w.in-Object.is at is in
          let fit = subst ShapeFits e fits in
          absurd (omega (arith, past ss h fit, object_short ss fit))))
    ]))
