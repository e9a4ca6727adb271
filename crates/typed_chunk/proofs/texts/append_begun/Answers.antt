use Rattle.std.proofs.Common.{◌≡◌, ◌<◌, ◌^◌, ◌∷◌, ◌++◌, ◌∙◌, ℕ, All, Err, List, ap, append_assoc}
use Rattle.std.proofs.Common.{length, map, pos, rules, subst, sym, take}
use Rattle.std.specs.List.{concat}
use Rattle.std.proofs.Math.Seq.{take-length}
use Rattle.typed_vector.specs.Cells.{rows}
use Rattle.typed_chunk.specs.Frame.{frame, unsigned_word}
use Rattle.typed_chunk.specs.Texts.{tails}
use Rattle.typed_chunk.proofs.SpanLaws.{kept_behind, kept_front, lengths_fit, three_more}
use Rattle.typed_chunk.proofs.texts.append_begun.Goals as goal

pub append_naturals-requires-clause-fit : goal.append_naturals-requires-clause-fit
append_naturals-requires-clause-fit c =
    subst (λ ns. All (λ n. n < 256 ^ 4) ns) (sym c.write_lengths.ensures)
    (lengths_fit c.args.texts.now (length c.args.start.now) c.args.offsets.now c.requires.short)

pub returns-in_err-append_start-clause-err : goal.returns-in_err-append_start-clause-err
returns-in_err-append_start-clause-err c =
    let old = c.args.out.now.items in
    let handed : c.from_residual.result ≡ Err c.in_err-append_start.field-0.0 = search rules in
    rw handed (ap (take (length old)) c.in_err-append_start.ensures ∙ take-length old)

pub returns-in_err-append_naturals-clause-err : goal.returns-in_err-append_naturals-clause-err
returns-in_err-append_naturals-clause-err c =
    let handed : c.from_residual-in_err-append_naturals.result
    ≡ Err c.in_err-append_naturals.field-0.0 = search rules in
    rw handed (kept_front c.args.out.now.items c.append_naturals.new.out.items
    (length c.args.start.now ∷ c.args.start.now)
    (c.in_err-append_naturals.ensures ∙ c.in_ok-append_start.ensures))

pub returns-in_err-append_tails-clause-err : goal.returns-in_err-append_tails-clause-err
returns-in_err-append_tails-clause-err c =
    let head = length c.args.start.now ∷ c.args.start.now in
    let old = c.args.out.now.items in
    let middle = frame (unsigned_word 4) (map pos c.write_lengths.new.lengths) in
    let handed : c.from_residual-in_err-append_tails.result
    ≡ Err c.in_err-append_tails.field-0.0 = search rules in
    rw handed (kept_behind old c.append_naturals.new.out.items c.append_tails.new.out.items
    (head ++ middle)
    (c.in_ok-append_naturals.ensures
    ∙ ap (λ (xs : List ℕ). xs ++ middle) c.in_ok-append_start.ensures
    ∙ append_assoc old head middle)
    c.in_err-append_tails.ensures.err)

pub returns-clause-ok : goal.returns-clause-ok
returns-clause-ok c =
    let start = c.args.start.now in
    let texts = tails (length start) (rows c.args.texts.now c.args.offsets.now) in
    three_more c.args.out.now.items _ _ _ (length start ∷ start)
    (frame (unsigned_word 4) (map pos (map length texts))) (concat texts)
    c.in_ok-append_start.ensures
    (c.in_ok-append_naturals.ensures
    ∙ ap (λ (ns : List ℕ). c.append_start.new.out.items ++ frame (unsigned_word 4) (map pos ns))
    c.write_lengths.ensures)
    c.in_ok-append_tails.ensures.ok
