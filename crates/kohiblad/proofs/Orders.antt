-- Sorted keys, and the order of rows by their numbers.
use Rattle.std.proofs.Common.{◌≡◌, ℕ, zero, suc, ◌+◌, ◌<◌, List, [], ◌∷◌, ◌++◌, length, map}
use Rattle.std.proofs.Common.{drop, slice_index_or, refl, sym, ap, ap₂, subst, ◌∙◌}
use Rattle.std.proofs.Common.{arith, length-append}
use Rattle.std.proofs.lemmas.List.{get_or-map, drop_more, map-append, length-map}
use Rattle.std.proofs.lemmas.List.Elements.{All-get_or, All-append, All-cons, All-nil}
use Rattle.std.proofs.lemmas.List.FromFn.{length-range_with_len}
use Rattle.std.proofs.lemmas.List.Sorted.{IsPermutation-map, All-permutation, length_permutation}
use Rattle.std.specs.List.{All, range_with_len}
use Rattle.std.specs.List.Sorted.{IsPermutation, IsSorted}
use Rattle.std.specs.Ordering.{nat_cmp, ordering_then, is_lt}
use Rattle.std.specs.declared.cmp.Ordering.{Ordering}
use Rattle.jsonb_value.specs.Meaning.{Meaning, meaning_cmp}
use Rattle.jsonb.specs.declared.sort_key.SortKey.{SortKey}
use Rattle.jsonb.specs.KeyOrder.{key_cmp}
use Rattle.jsonb.specs.SortKey.{key_meaning}
use Rattle.jsonb.proofs.KeyOrderLaws.{key_cmp-is}
use Rattle.typed_vector.specs.Cells.{rows_from}
use Rattle.kohiblad.specs.SortOrder.{row_cmp, IsOrderOf}

abbrev pub numbers_of : List (SortKey × ℕ) → List ℕ
numbers_of keys = map (λ key. key.1) keys

-- The key means what the row with its number means.
abbrev pub IsKeyOf : (List ℕ → Meaning) → List (List ℕ) → SortKey × ℕ → Type 0
IsKeyOf means rows key = key_meaning key.0 ≡ means (slice_index_or rows key.1 [])

-- the order of keys, and of equal ones by their numbers
abbrev pub pair_cmp : SortKey × ℕ → SortKey × ℕ → Ordering
pair_cmp x y = ordering_then (key_cmp x.0 y.0) (nat_cmp x.1 y.1)

-- the keys of the first rows, and the rows that are left
pub record KeysSoFar (means : List ℕ → Meaning) (rows left : List (List ℕ))
    (keys : List (SortKey × ℕ)) : Type 0 where
  pub numbers : numbers_of keys ≡ range_with_len 0 (length keys)
  pub later : drop (length keys) rows ≡ left
  pub count : length keys + length left ≡ length rows
  pub keys_of_rows : All (IsKeyOf means rows) keys

range_with_len-push : (a n : ℕ) → range_with_len a (suc n) ≡ range_with_len a n ++ (a + n) ∷ []
range_with_len-push a zero = let here : a ≡ a + 0 = omega arith in ap (λ (k : ℕ). k ∷ []) here
range_with_len-push a (suc n) =
    let next : a + 1 + n ≡ a + suc n = omega arith in
    ap (λ (ks : List ℕ). a ∷ ks)
    (range_with_len-push (a + 1) n ∙ ap (λ (k : ℕ). range_with_len (a + 1) n ++ k ∷ []) next)

pub one_more_key : (means : List ℕ → Meaning) (rows left later : List (List ℕ)) (row : List ℕ)
    (keys : List (SortKey × ℕ))
    (key : SortKey) → KeysSoFar means rows left keys → left ≡ row ∷ later
    → key_meaning key ≡ means row
    → KeysSoFar means rows later (keys ++ (key, length keys) ∷ [])
one_more_key means rows left later row keys key so_far cut is =
    let n = length keys in
    let count = so_far.count in
    let left_count : length left ≡ suc (length later) = ap length cut in
    let one : length (keys ++ (key, length keys) ∷ []) ≡ length keys + 1 =
    length-append keys ((key, length keys) ∷ []) in
    let longer : length (keys ++ (key, length keys) ∷ []) ≡ suc (length keys) = omega arith in
    let inside : length keys < length rows = omega arith in
    let more : drop (length keys) rows ≡ slice_index_or rows (length keys) []
    ∷ drop (length keys + 1) rows = drop_more rows (length keys) [] inside in
    let there = so_far.later in
    let here : slice_index_or rows (length keys) [] ≡ row = cc in
    let rest : drop (length keys + 1) rows ≡ later = cc in
    let this : 0 + length keys ≡ length keys = omega arith in
    record {
      numbers =
          map-append (λ (key : SortKey × ℕ). key.1) keys ((key, length keys) ∷ [])
          ∙ ap (λ (ks : List ℕ). ks ++ length keys ∷ []) so_far.numbers
          ∙ ap (λ (k : ℕ). range_with_len 0 (length keys) ++ k ∷ []) (sym this)
          ∙ sym (range_with_len-push 0 (length keys))
          ∙ ap (range_with_len 0) (sym longer);
      later = ap (λ (k : ℕ). drop k rows) one ∙ rest;
      count = omega arith;
      keys_of_rows =
          All-append (IsKeyOf means rows) keys ((key, length keys) ∷ []) so_far.keys_of_rows
          (All-cons (IsKeyOf means rows) (key, length keys) [] (is ∙ ap means (sym here))
          (All-nil (IsKeyOf means rows)));
    }

ordered_at : (means : List ℕ → Meaning) (rows : List (List ℕ)) (keys : List (SortKey × ℕ))
    (d : SortKey × ℕ)
    → All (IsKeyOf means rows) keys → IsSorted pair_cmp keys → IsSorted (row_cmp means rows)
    (numbers_of keys)
ordered_at means rows keys d are sorted = λ k e low high.
    let long : length (numbers_of keys) ≡ length keys =
    length-map keys (λ (key : SortKey × ℕ). key.1) in
    let x : SortKey × ℕ = slice_index_or keys (k + 1) d in
    let y : SortKey × ℕ = slice_index_or keys k d in
    let first = get_or-map (λ (key : SortKey × ℕ). key.1) keys k d e (omega arith) in
    let second = get_or-map (λ (key : SortKey × ℕ). key.1) keys (k + 1) d e (omega arith) in
    let first_means = All-get_or (IsKeyOf means rows) keys k d (omega arith) are in
    let second_means = All-get_or (IsKeyOf means rows) keys (k + 1) d (omega arith) are in
    ap is_lt (
    ap₂ (row_cmp means rows) second first
    ∙ ap₂ (λ (m n : Meaning). ordering_then (meaning_cmp m n) (nat_cmp x.1 y.1)) (sym second_means)
    (sym first_means)
    ∙ ap (λ (o : Ordering). ordering_then o (nat_cmp x.1 y.1)) (sym (key_cmp-is x.0 y.0))
    )
    ∙ sorted k d low (omega arith)

ordered : (means : List ℕ → Meaning) (rows : List (List ℕ)) (keys : List (SortKey × ℕ))
    → All (IsKeyOf means rows) keys
    → IsSorted pair_cmp keys → IsSorted (row_cmp means rows) (numbers_of keys)
ordered means rows [] are sorted = λ k e low high. absurd (omega arith)
ordered means rows (key ∷ keys) are sorted = ordered_at means rows (key ∷ keys) key are sorted

-- sorted keys give the order of the rows
pub order_of_keys : (means : List ℕ → Meaning) (rows left : List (List ℕ))
    (before after : List (SortKey × ℕ)) → left ≡ []
    → KeysSoFar means rows left before → IsPermutation before after → IsSorted pair_cmp after
    → IsOrderOf means rows (numbers_of after)
order_of_keys means rows left before after ended all moved sorted =
    let none : length left ≡ 0 = ap length ended in
    let count = all.count in
    let long : length before ≡ length rows = omega arith in
    let numbers = all.numbers ∙ ap (range_with_len 0) long in
    record {
      each_once = subst
          (λ (ks : List ℕ). IsPermutation ks (numbers_of after)) numbers
          (IsPermutation-map (λ (key : SortKey × ℕ). key.1) before after moved);
      ascend = ordered means rows after
          (All-permutation (IsKeyOf means rows) before after moved all.keys_of_rows) sorted;
    }

-- the order of rows has as many numbers
pub length-IsOrderOf : (means : List ℕ → Meaning) (rows : List (List ℕ)) (numbers : List ℕ)
    → IsOrderOf means rows numbers
    → length numbers ≡ length rows
length-IsOrderOf means rows numbers h =
    length_permutation _ _ h.each_once ∙ length-range_with_len 0 (length rows)

pub row_count : (bytes : List ℕ) (start : ℕ) (ends : List ℕ)
    → length (rows_from bytes start ends) ≡ length ends
row_count bytes start [] = refl
row_count bytes start (end ∷ ends) = ap suc (row_count bytes end ends)
