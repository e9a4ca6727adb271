-- A run of bytes that pass q, tested a vector at a time by the mask of those that fail it.
use Rattle.std.proofs.Common.{◌≡◌, ℕ, ◌+◌, ◌<◌, ◌≤◌, Bool, not, cond, eqb, List, [], ◌∷◌, map}
use Rattle.std.proofs.Common.{length, drop, refl, sym, ap, ◌∙◌, inl, inr, arith}
use Rattle.std.proofs.lemmas.Bool.{cases_Bool, eq-eqb, ne_eqb}
use Rattle.std.proofs.lemmas.Simd.{chunk-drop, length-chunk, leading_from_mask_l, trailing_mask_l}
use Rattle.std.proofs.lemmas.List.Folds.{prefix_len-append}
use Rattle.std.specs.List.{prefix_len}
use Rattle.std.specs.Simd.Lanes.{mask_l, chunk}
use lib.Count.{count_trailing_zeros}

module _ (p q : ℕ → Bool) (opposite : (b : ℕ) → q b ≡ not (p b)) where
  same_run : (xs : List ℕ) → prefix_len q xs ≡ prefix_len (λ x. not (p x)) xs
  same_run [] = refl
  same_run (x ∷ xs) = grind (arith, opposite, same_run xs)

  split_run : (bytes : List ℕ) (i n : ℕ)
      → prefix_len q (drop i bytes)
      ≡ cond (eqb (prefix_len q (chunk i n bytes)) (length (chunk i n bytes)))
      (length (chunk i n bytes) + prefix_len q (drop (i + n) bytes))
      (prefix_len q (chunk i n bytes))
  split_run bytes i n = ap (prefix_len q) (chunk-drop i n bytes)
      ∙ prefix_len-append q (chunk i n bytes) (drop (i + n) bytes)

  pub passes_through : (bytes : List ℕ) (i n : ℕ) → i + n ≤ length bytes
      → mask_l (map p (chunk i n bytes)) ≡ 0
      → prefix_len q (drop i bytes) ≡ n + prefix_len q (drop (i + n) bytes)
  passes_through bytes i n within none =
      let c = chunk i n bytes in
      split_run bytes i n
      ∙ ap (λ b. cond b (length c + prefix_len q (drop (i + n) bytes)) (prefix_len q c))
      (eq-eqb _ _ (same_run c ∙ leading_from_mask_l p c none))
      ∙ ap (λ k. k + prefix_len q (drop (i + n) bytes)) (length-chunk i n bytes within)

  -- a run that covers all lanes has an empty mask
  whole_run : (xs : List ℕ) → prefix_len (λ x. not (p x)) xs ≡ length xs
      → mask_l (map p xs) ≡ 0
  whole_run [] e = refl
  whole_run (x ∷ xs) e = elim (cases_Bool (p x)) [
    | inl escaped ↦ absurd (omega (arith, rw escaped at e))
    | inr plain ↦ rw plain (omega (arith, whole_run xs (omega (arith, rw plain at e))))
  ]

  pub stops_within : (bytes : List ℕ) (i n : ℕ) → i + n ≤ length bytes → n ≤ 64
      → 0 < mask_l (map p (chunk i n bytes))
      → prefix_len q (drop i bytes)
      ≡ count_trailing_zeros 64 (mask_l (map p (chunk i n bytes)))
  stops_within bytes i n within few some =
      let c = chunk i n bytes in
      split_run bytes i n
      ∙ ap (λ b. cond b (length c + prefix_len q (drop (i + n) bytes)) (prefix_len q c))
      (ne_eqb _ _
      (λ (e : prefix_len q c ≡ length c). omega
      (arith, whole_run c (sym (same_run c) ∙ e))))
      ∙ same_run c
      ∙ sym (trailing_mask_l p 64 c (omega (arith, length-chunk i n bytes within)) some)
