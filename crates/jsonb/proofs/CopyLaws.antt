-- Copies that overlap, and a buffer that is made longer.
use Rattle.std.proofs.Common.{◌≡◌, ℕ, ◌+◌, ◌-◌, ◌≤◌, List, ◌++◌, length, take, drop, ap, sym, ◌∙◌}
use Rattle.std.proofs.Common.{Bool, true, false, subst, cond}
use Rattle.std.proofs.Common.{arith, length-take-le, length-drop, length-append, take-take}
use Rattle.std.proofs.lemmas.List.{take-append-le}
use Rattle.std.proofs.Common.{take_all, take-append-drop}
use Rattle.std.proofs.lemmas.Simd.{take_more_put_chunk, length-put_chunk}
use lib.Lanes.{chunk, put_chunk}

-- the first and the last n bytes of a text, laid over each other, are the text
pub ends_put : (n : ℕ) (room text : List ℕ) → length room ≡ length text → n ≤ length text
    → length text ≤ n + n
    → put_chunk (length text - n) (put_chunk 0 room (chunk 0 n text))
    (chunk (length text - n) n text) ≡ text
ends_put n room text same few covers =
    let back = length text - n in
    let front = take n text in
    let end = take n (drop back text) in
    let once = put_chunk 0 room front in
    let twice = put_chunk back once end in
    let left : length (drop back text) ≡ n = omega (arith, length-drop back text) in
    let len_front : length front ≡ n = length-take-le n text few in
    let len_end : length end ≡ n = length-take-le n (drop back text) (omega arith) in
    let len_once : length once ≡ length text = length-put_chunk 0 room front ∙ same in
    let len_twice : length twice ≡ length text = length-put_chunk back once end ∙ len_once in
    let whole : take (length text) twice ≡ take back once ++ end =
    take_more_put_chunk back once end (length text) (omega arith) (omega arith) in
    let first : take n once ≡ front =
    take_more_put_chunk 0 room front n (omega arith) (omega arith) in
    let begin : take back once ≡ take back text =
    sym (take-take back n once (omega arith)) ∙ ap (take back) first
    ∙ take-take back n text (omega arith) in
    let last : end ≡ drop back text = take_all n (drop back text) (omega arith) in
    sym (take_all (length text) twice (omega arith)) ∙ whole ∙ ap (λ l. l ++ end) begin
    ∙ ap (λ l. take back text ++ l) last ∙ take-append-drop back text

-- what is in use stays where a buffer is made longer, or memory for it refused
pub kept_in_use : (ok : Bool) (at n : ℕ) (old more new : List ℕ) → at ≤ length old
    → length old ≤ n → new ≡ cond ok (take n old ++ more) old
    → (at ≤ length new) × (take at new ≡ take at old)
kept_in_use true at n old more new within long is =
    let same : new ≡ old ++ more = is ∙ ap (λ l. l ++ more) (take_all n old long) in (
      subst (λ l. at ≤ length l) (sym same) (omega (arith, length-append old more)),
      ap (take at) same ∙ take-append-le at old more within,
    )
kept_in_use false at n old more new within long is =
    (subst (λ l. at ≤ length l) (sym is) within, ap (take at) is)
