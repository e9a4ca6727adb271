-- The other bytes of rows: one more row, and the row at an index.
use Rattle.std.proofs.Common.{◌≡◌, ℕ, zero, suc, ◌+◌, ◌<◌, ◌≤◌, ◌≢◌, List, [], ◌∷◌, ◌++◌, inl, inr}
use Rattle.std.proofs.Common.{length, get_or, sym, ap, ap₂, ◌∙◌, arith}
use Rattle.std.specs.Prelude.{All, Err, Ok, replicate, set}
use Rattle.std.specs.List.Sorted.{IsBinarySearchResult, IsStrictlyIncreasing}
use Rattle.std.specs.Ordering.{nat_cmp}
use Rattle.std.proofs.Math.Nat.{eq-or-lt_of_le}
use Rattle.std.proofs.Math.Seq.{get_or-append_seam, set-append_seam}
use Rattle.std.proofs.lemmas.Bool.{cases_lt}
use Rattle.std.proofs.lemmas.List.{get_or_append_left, get_or-replicate, get_or_past}
use Rattle.std.proofs.lemmas.List.{get_or-set_other, get_or-set_same, length-append, length-replicate}
use Rattle.std.proofs.lemmas.List.{length-set, replicate-append-replicate, set-append_left}
use Rattle.std.proofs.lemmas.List.Elements.{All-get_or, All-head, All-push, All-tail, All-weaker}
use Rattle.std.proofs.lemmas.List.Kept.{AllPairs-from_increasing}
use Rattle.std.proofs.lemmas.List.Sorted.{searched}
use Rattle.typed_vector.specs.Cells.{rows}
use Rattle.typed_vector.specs.Rest.{IsRest, spread}
use Rattle.typed_vector.proofs.CellLaws.{AreOffsets-push, length-rows, rows-push}

pub length-spread : (count : ℕ) (is : List ℕ) (ls : List (List ℕ))
    → length (spread count is ls) ≡ count
length-spread count [] ls = length-replicate count []
length-spread count (i ∷ is) [] = length-replicate count []
length-spread count (i ∷ is) (l ∷ ls) =
    length-set (spread count is ls) i l ∙ length-spread count is ls

empty-more : (count : ℕ)
    → replicate {A = List ℕ} (count + 1) [] ≡ replicate count [] ++ [] ∷ []
empty-more count = sym (replicate-append-replicate count 1 [])

-- One more row that has no bytes.
pub spread-more : (count : ℕ) (is : List ℕ) (ls : List (List ℕ)) → All (λ i. i < count) is
    → spread (count + 1) is ls ≡ spread count is ls ++ [] ∷ []
spread-more count [] ls low = empty-more count
spread-more count (i ∷ is) [] low = empty-more count
spread-more count (i ∷ is) (l ∷ ls) low =
    ap (λ (xs : List (List ℕ)). set xs i l)
    (spread-more count is ls (All-tail (λ i. i < count) i is low))
    ∙ set-append_left (spread count is ls) ([] ∷ []) i l
    (omega (arith, All-head (λ i. i < count) i is low, length-spread count is ls))

last-set : (count : ℕ) (bytes : List ℕ)
    → set (replicate (count + 1) []) count bytes ≡ replicate count [] ++ bytes ∷ []
last-set count bytes =
    ap₂ (λ (xs : List (List ℕ)) (n : ℕ). set xs n bytes) (empty-more count)
    (sym (length-replicate {A = List ℕ} count []))
    ∙ set-append_seam (replicate count []) [] [] bytes

-- One more row that is listed.
pub spread-push : (count : ℕ) (is : List ℕ) (ls : List (List ℕ)) (bytes : List ℕ)
    → All (λ i. i < count) is → length ls ≡ length is
    → spread (count + 1) (is ++ count ∷ []) (ls ++ bytes ∷ []) ≡ spread count is ls ++ bytes ∷ []
spread-push count [] [] bytes low same = last-set count bytes
spread-push count [] (l ∷ ls) bytes low same = absurd (omega (arith, same))
spread-push count (i ∷ is) [] bytes low same = absurd (omega (arith, same))
spread-push count (i ∷ is) (l ∷ ls) bytes low same =
    ap (λ (xs : List (List ℕ)). set xs i l)
    (spread-push count is ls bytes (All-tail (λ i. i < count) i is low) (omega (arith, same)))
    ∙ set-append_left (spread count is ls) (bytes ∷ []) i l
    (omega (arith, All-head (λ i. i < count) i is low, length-spread count is ls))

increasing-push : (is : List ℕ) (count : ℕ) → IsStrictlyIncreasing is → All (λ i. i < count) is
    → IsStrictlyIncreasing (is ++ count ∷ [])
increasing-push is count up low k within =
    let size : k + 1 < length is + 1 = omega (arith, within, length-append is (count ∷ [])) in
    let first : get_or (is ++ count ∷ []) k 0 ≡ get_or is k 0 =
    get_or_append_left is (count ∷ []) 0 k (omega (arith, size)) in
    elim (cases_lt (k + 1) (length is)) [
      | inl h ↦ omega (arith, first, up k h, get_or_append_left is (count ∷ []) 0 (k + 1) h)
      | inr h ↦
          let last : k + 1 ≡ length is = omega (arith, h, size) in
          let there : get_or (is ++ count ∷ []) (k + 1) 0 ≡ count =
          ap (λ n. get_or (is ++ count ∷ []) n 0) last ∙ get_or-append_seam is count [] 0 in
          omega (
            arith,
            first,
            there,
            All-get_or (λ i. i < count) is k 0 (omega (arith, size)) low,
          )
    ]

empty-at : (count i : ℕ) → get_or (replicate {A = List ℕ} count []) i [] ≡ []
empty-at count i =
    elim (cases_lt i count) [
      | inl h ↦ get_or-replicate count i [] [] h
      | inr h ↦ get_or_past (replicate count []) i []
          (omega (arith, h, length-replicate {A = List ℕ} count []))
    ]

-- No index is that of the row: it has no bytes.
pub spread-none : (count : ℕ) (is : List ℕ) (ls : List (List ℕ)) (row : ℕ)
    → ((k : ℕ) → k < length is → get_or is k 0 ≢ row) → get_or (spread count is ls) row [] ≡ []
spread-none count [] ls row other = empty-at count row
spread-none count (i ∷ is) [] row other = empty-at count row
spread-none count (i ∷ is) (l ∷ ls) row other =
    let apart : row ≢ i = λ same. other 0 (omega arith) (sym same) in
    get_or-set_other (spread count is ls) i row l [] apart
    ∙ spread-none count is ls row (λ k low. other (suc k) (omega (arith, low)))

increasing-tail : (i : ℕ) (is : List ℕ) → IsStrictlyIncreasing (i ∷ is) → IsStrictlyIncreasing is
increasing-tail i is up k within =
    let next : suc k + 1 ≡ suc (k + 1) = omega arith in
    omega (arith, up (suc k) (omega (arith, within)), ap (λ n. get_or (i ∷ is) n 0) next)

-- The index at a place is that of the row: it has the bytes at this place.
pub spread-at : (count : ℕ) (is : List ℕ) (ls : List (List ℕ)) (k : ℕ)
    → IsStrictlyIncreasing is → All (λ i. i < count) is → length ls ≡ length is → k < length is
    → get_or (spread count is ls) (get_or is k 0) [] ≡ get_or ls k []
spread-at count [] ls k up low same within = absurd (omega (arith, within))
spread-at count (i ∷ is) [] k up low same within = absurd (omega (arith, same))
spread-at count (i ∷ is) (l ∷ ls) zero up low same within =
    get_or-set_same (spread count is ls) i l []
    (omega (arith, All-head (λ i. i < count) i is low, length-spread count is ls))
spread-at count (i ∷ is) (l ∷ ls) (suc k) up low same within =
    let above : i < get_or is k 0 =
    AllPairs-from_increasing (i ∷ is) up 0 (suc k) 0 (omega arith) within in
    get_or-set_other (spread count is ls) i (get_or is k 0) l [] (omega (arith, above))
    ∙ spread-at count is ls k (increasing-tail i is up)
    (All-tail (λ i. i < count) i is low) (omega (arith, same)) (omega (arith, within))

pub rising : (is : List ℕ) → IsStrictlyIncreasing is → (i j : ℕ) → i ≤ j → j < length is
    → get_or is i 0 ≤ get_or is j 0
rising is up i j le within =
    elim (eq-or-lt_of_le le) [
      | inl same ↦ omega (arith, ap (λ n. get_or is n 0) same)
      | inr below ↦ omega (arith, AllPairs-from_increasing is up i j 0 below within)
    ]

-- The bytes of the row that a search for its index finds, and none if it finds none.
pub found-at : (count : ℕ) (is b os : List ℕ) → IsRest count is b os → (row place : ℕ)
    → IsBinarySearchResult (λ i. nat_cmp i row) is (Ok place)
    → (place + 1 < length os)
    × (get_or (rows b os) place [] ≡ get_or (spread count is (rows b os)) row [])
found-at count is b os rest row place position =
    let found = searched is row (Ok place) position (rising is rest.increasing) in
    let within : place < length is = found.0 in
    let listed : length (rows b os) ≡ length is =
    omega (arith, length-rows b os rest.ascending, rest.counted) in (
      omega (arith, within, rest.counted),
      sym (spread-at count is (rows b os) place rest.increasing rest.within listed within)
          ∙ ap (λ n. get_or (spread count is (rows b os)) n []) found.1,
    )

pub none-at : (count : ℕ) (is b os : List ℕ) → IsRest count is b os → (row place : ℕ)
    → IsBinarySearchResult (λ i. nat_cmp i row) is (Err place)
    → get_or (spread count is (rows b os)) row [] ≡ []
none-at count is b os rest row place position =
    let found = searched is row (Err place) position (rising is rest.increasing) in
    spread-none count is (rows b os) row
    (λ k within same. elim (cases_lt k place) [
      | inl h ↦ omega (arith, found.1 k h, same)
      | inr h ↦ omega (arith, found.2 k h within, same)
    ])

-- One more row that has no bytes.
pub unlisted : (count : ℕ) (is b os : List ℕ) → IsRest count is b os → IsRest (count + 1) is b os
unlisted count is b os rest =
    record {
      increasing = rest.increasing;
      within = All-weaker (λ i. i < count) (λ i. i < count + 1) (λ i low. omega (arith, low)) is
          rest.within;
      counted = rest.counted;
      ascending = rest.ascending;
      some = rest.some;
    }

-- One more row that has bytes, by what each part has become.
pub listed : (count : ℕ) (is is' b b' os os' bytes : List ℕ) (end : ℕ) → IsRest count is b os
    → 0 < length bytes → is' ≡ is ++ count ∷ [] → b' ≡ b ++ bytes → os' ≡ os ++ end ∷ []
    → end ≡ length b'
    → IsRest (count + 1) is' b' os'
    × (spread (count + 1) is' (rows b' os') ≡ spread count is (rows b os) ++ bytes ∷ [])
listed count is is' b b' os os' bytes end rest some pi pb po pe =
    let long : end ≡ length b + length bytes = pe ∙ ap length pb ∙ length-append b bytes in
    let more : rows b' os' ≡ rows b os ++ bytes ∷ [] =
    rw (pb, po) (rows-push b bytes end os rest.ascending long) in
    let same : length (rows b os) ≡ length is =
    omega (arith, length-rows b os rest.ascending, rest.counted) in (
      record {
        increasing = rw pi (increasing-push is count rest.increasing rest.within);
        within = rw pi (All-push (λ i. i < count + 1) is count
            (All-weaker (λ i. i < count) (λ i. i < count + 1) (λ i low. omega (arith, low)) is
            rest.within) (omega arith));
        counted = omega (
          arith,
          rest.counted,
          ap length pi ∙ length-append is (count ∷ []),
          ap length po ∙ length-append os (end ∷ []),
        );
        ascending = rw (po, ← pe)
            (AreOffsets-push (length b) end os rest.ascending (omega (arith, long)));
        some = rw more (All-push (λ row. 0 < length row) (rows b os) bytes rest.some some);
      },
      rw (more, pi) (spread-push count is (rows b os) bytes rest.within same),
    )
