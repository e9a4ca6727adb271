-- The offsets of all rows, from those of the rows that are listed.
use Rattle.std.proofs.Common.{◌≡◌, ℕ, suc, ◌+◌, ◌-◌, ◌<◌, ◌≤◌, ◌≢◌, List, [], ◌∷◌, inl, inr}
use Rattle.std.proofs.Common.{length, get_or, take, drop, sym, ap, ◌∙◌, arith, add-one, subst}
use Rattle.std.specs.Prelude.{set}
use Rattle.std.specs.List.Sorted.{IsStrictlyIncreasing}
use Rattle.std.proofs.lemmas.Bool.{cases_eq, cases_lt}
use Rattle.std.proofs.lemmas.Grind.{get_or-set_at}
use Rattle.std.proofs.lemmas.List.{ext_get_or, get_or-set_other}
use Rattle.std.proofs.lemmas.List.Elements.{All-get_or}
use Rattle.std.proofs.lemmas.List.Kept.{AllPairs-from_increasing}
use Rattle.typed_vector.specs.Cells.{AreEnds, AreOffsets, rows}
use Rattle.typed_vector.specs.Rest.{IsRest, spread}
use Rattle.typed_vector.proofs.CellLaws.{IsRowAt, length-rows, row-at}
use Rattle.typed_vector.proofs.RestLaws.{length-spread, rising, spread-at, spread-none}

-- So many of the indices are below the row.
pub record IsPlace (indices : List ℕ) (row place : ℕ) : Type 0 where
  pub within : place ≤ length indices
  pub below : (k : ℕ) → k < place → get_or indices k 0 < row
  pub above : (k : ℕ) → place ≤ k → k < length indices → row ≤ get_or indices k 0

pub place-moves : (is : List ℕ) (row place : ℕ) → IsStrictlyIncreasing is → IsPlace is row place
    → place < length is → get_or is place 0 ≡ row → IsPlace is (row + 1) (place + 1)
place-moves is row place up at within there =
    record {
      within = omega (arith, within);
      below = λ k low. elim (cases_lt k place) [
        | inl h ↦ omega (arith, at.below k h)
        | inr h ↦
            let same : k ≡ place = omega (arith, low, h) in
            omega (arith, there, ap (λ n. get_or is n 0) same)
      ];
      above = λ k low inside.
          omega (arith, there, AllPairs-from_increasing is up place k 0 (omega (arith, low)) inside);
    }

pub place-stays : (is : List ℕ) (row place : ℕ) → IsStrictlyIncreasing is → IsPlace is row place
    → (place < length is → get_or is place 0 ≢ row) → IsPlace is (row + 1) place
place-stays is row place up at other =
    record {
      within = at.within;
      below = λ k low. omega (arith, at.below k low);
      above = λ k low inside.
          let first : place < length is = omega (arith, low, inside) in
          let next : row + 1 ≤ get_or is place 0 = omega (
            arith,
            at.above place (omega arith) first,
            other first,
          ) in
          omega (arith, next, rising is up place k low inside);
    }

-- The offset is that of the first index that is not below the row.
pub record IsWritten (indices offsets : List ℕ) (row offset : ℕ) : Type 0 where
  pub place : ℕ
  pub at : IsPlace indices row place
  pub is : offset ≡ get_or offsets place 0

-- The offset of one more row is written.
pub written-more : (is os out : List ℕ) (row place : ℕ) → IsPlace is row place → row < length out
    → ((k : ℕ) → k < row → IsWritten is os k (get_or out k 0))
    → (k : ℕ) → k < row + 1 → IsWritten is os k (get_or (set out row (get_or os place 0)) k 0)
written-more is os out row place at inside before k low =
    elim (cases_lt k row) [
      | inl h ↦
          let w = before k h in
          record {
            place = w.place;
            at = w.at;
            is = get_or-set_other out row k (get_or os place 0) 0 (omega (arith, h)) ∙ w.is;
          }
      | inr h ↦
          let same : k ≡ row = omega (arith, h, low) in
          record {
            place = place;
            at = subst (λ (n : ℕ). IsPlace is n place) (sym same) at;
            is = get_or-set_at out row k (get_or os place 0) 0 same inside;
          }
    ]

-- The bytes between the offsets of a row and the next.
record IsStep (count : ℕ) (is b os : List ℕ) (row first next : ℕ) : Type 0 where
  pub low : first ≤ next
  pub bytes : take (next - first) (drop first b) ≡ get_or (spread count is (rows b os)) row []

step-listed : (count : ℕ) (is b os : List ℕ) → IsRest count is b os → (row : ℕ) → (p q : ℕ)
    → IsPlace is row p → IsPlace is (row + 1) q → p < length is → get_or is p 0 ≡ row
    → IsStep count is b os row (get_or os p 0) (get_or os q 0)
step-listed count is b os rest row p q first next within there =
    let past : p < q = elim (cases_lt p q) [
      | inl h ↦ h
      | inr h ↦ absurd (omega (arith, next.above p h within, there))
    ] in
    let close : q ≤ p + 1 = elim (cases_lt (p + 1) q) [
      | inl h ↦ absurd (omega (
        arith,
        next.below (p + 1) h,
        there,
        AllPairs-from_increasing is rest.increasing p (p + 1) 0 (omega arith)
            (omega (arith, h, next.within)),
      ))
      | inr h ↦ h
    ] in
    let same : q ≡ suc p = omega (arith, past, close) in
    let at : IsRowAt b os p = row-at b os p rest.ascending (omega (arith, within, rest.counted)) in
    let listed : length (rows b os) ≡ length is =
    omega (arith, length-rows b os rest.ascending, rest.counted) in
    let end : get_or os q 0 ≡ get_or os (suc p) 0 = ap (λ n. get_or os n 0) same in
    record {
      low = omega (arith, at.low, end);
      bytes = ap (λ (n : ℕ). take (n - get_or os p 0) (drop (get_or os p 0) b)) end
          ∙ sym at.row
          ∙ sym (spread-at count is (rows b os) p rest.increasing rest.within listed within)
          ∙ ap (λ n. get_or (spread count is (rows b os)) n []) there;
    }

step-other : (count : ℕ) (is b os : List ℕ) → IsRest count is b os → (row : ℕ) → (p q : ℕ)
    → IsPlace is row p → IsPlace is (row + 1) q
    → (p < length is → get_or is p 0 ≢ row)
    → IsStep count is b os row (get_or os p 0) (get_or os q 0)
step-other count is b os rest row p q first next other =
    let here = place-stays is row p rest.increasing first other in
    let same : q ≡ p = elim (cases_lt p q) [
      | inl h ↦
          absurd (omega (
            arith,
            next.below p h,
            here.above p (omega arith)
                (omega (arith, h, next.within)),
          ))
      | inr h ↦ elim (cases_lt q p) [
        | inl low ↦
            absurd (omega (
              arith,
              first.below q low,
              next.above q (omega arith)
                  (omega (arith, low, first.within)),
            ))
        | inr high ↦ omega (arith, h, high)
      ]
    ] in
    let end : get_or os q 0 ≡ get_or os p 0 = ap (λ n. get_or os n 0) same in
    let none : get_or os q 0 - get_or os p 0 ≡ 0 = omega (arith, end) in
    record {
      low = omega (arith, end);
      bytes = ap (λ (n : ℕ). take n (drop (get_or os p 0) b)) none
          ∙ sym (spread-none count is (rows b os) row
          (λ k within there. elim (cases_lt k p) [
            | inl low ↦ omega (arith, first.below k low, there)
            | inr high ↦ omega (arith, here.above k high within, there)
          ]));
    }

step : (count : ℕ) (is b os : List ℕ) → IsRest count is b os → (row first next : ℕ)
    → IsWritten is os row first → IsWritten is os (row + 1) next
    → IsStep count is b os row first next
step count is b os rest row first next w v =
    let places : IsStep count is b os row (get_or os w.place 0) (get_or os v.place 0) =
    elim (cases_lt w.place (length is)) [
      | inl within ↦ elim (cases_eq (get_or is w.place 0) row) [
        | inl there ↦ step-listed count is b os rest row w.place v.place w.at v.at within there
        | inr other ↦
            step-other count is b os rest row w.place v.place w.at v.at (λ inside. other)
      ]
      | inr past ↦ step-other count is b os rest row w.place v.place w.at v.at
          (λ inside. absurd (omega (arith, past, inside)))
    ] in
    rw (w.is, v.is) places

ends-from : (size start : ℕ) (ends : List ℕ)
    → ((i : ℕ) → i < length ends → get_or (start ∷ ends) i 0 ≤ get_or (start ∷ ends) (suc i) 0)
    → get_or (start ∷ ends) (length ends) 0 ≡ size → AreEnds size start ends
ends-from size start [] steps last = last
ends-from size start (e ∷ es) steps last =
    (steps 0 (omega arith), ends-from size e es (λ i low. steps (suc i) (omega (arith, low))) last)

last-end : (size start : ℕ) (ends : List ℕ) → AreEnds size start ends
    → get_or (start ∷ ends) (length ends) 0 ≡ size
last-end size start [] h = h
last-end size start (e ∷ es) h = last-end size e es h.1

last-offset : (size n : ℕ) (offsets : List ℕ) → AreOffsets size offsets → length offsets ≡ n + 1
    → get_or offsets n 0 ≡ size
last-offset size n [] h long = absurd h
last-offset size n (s ∷ es) h long =
    let same : n ≡ length es = omega (arith, long) in
    ap (λ k. get_or (s ∷ es) k 0) same ∙ last-end size s es h.1

first-offset : (size : ℕ) (offsets : List ℕ) → AreOffsets size offsets → get_or offsets 0 0 ≡ 0
first-offset size [] h = absurd h
first-offset size (s ∷ es) h = h.0

-- The offsets are those of all rows.
pub written-rows : (count : ℕ) (is b os out : List ℕ) → IsRest count is b os
    → length out ≡ count + 1
    → ((row : ℕ) → row < length out → IsWritten is os row (get_or out row 0))
    → AreOffsets (length b) out × (rows b out ≡ spread count is (rows b os))
written-rows count is b os [] rest long written = absurd (omega (arith, long))
written-rows count is b os (start ∷ ends) rest long written =
    let out = start ∷ ends in
    let steps : (row : ℕ) → row < count
    → IsStep count is b os row (get_or out row 0) (get_or out (row + 1) 0) =
    λ row low. step count is b os rest row (get_or out row 0) (get_or out (row + 1) 0)
    (written row (omega (arith, low, long))) (written (row + 1) (omega (arith, low, long))) in
    let w = written 0 (omega (arith, long)) in
    let none : w.place ≡ 0 = elim (cases_lt 0 w.place) [
      | inl h ↦ absurd (omega (arith, w.at.below 0 h))
      | inr h ↦ omega (arith, h)
    ] in
    let zeroth : start ≡ 0 =
    w.is ∙ ap (λ n. get_or os n 0) none ∙ first-offset (length b) os rest.ascending in
    let v = written count (omega (arith, long)) in
    let all : v.place ≡ length is = elim (cases_lt v.place (length is)) [
      | inl h ↦ absurd (omega (
        arith,
        v.at.above v.place (omega arith) h,
        All-get_or (λ i. i < count) is v.place 0 h rest.within,
      ))
      | inr h ↦ omega (arith, h, v.at.within)
    ] in
    let size : length ends ≡ count = omega (arith, long) in
    let last : get_or out (length ends) 0 ≡ length b =
    ap (λ n. get_or out n 0) size ∙ v.is
    ∙ ap (λ n. get_or os n 0) all
    ∙ last-offset (length b) (length is) os rest.ascending rest.counted in
    let ascending : AreOffsets (length b) out = (
      zeroth,
      ends-from (length b) start ends
          (λ row low. omega (
            arith,
            (steps row (omega (arith, low, size))).low,
            ap (λ n. get_or out n 0) (add-one row),
          )) last,
    ) in
    let many : length (rows b out) ≡ length (spread count is (rows b os)) =
    omega (arith, length-rows b out ascending, long, length-spread count is (rows b os)) in (
      ascending,
      ext_get_or [] (rows b out) (spread count is (rows b os)) many
          (λ row low.
          let below : row < count =
          omega (arith, low, many, length-spread count is (rows b os)) in
          (row-at b out row ascending (omega (arith, below, long))).row
          ∙ ap (λ (n : ℕ). take (n - get_or out row 0) (drop (get_or out row 0) b))
          (ap (λ n. get_or out n 0) (sym (add-one row)))
          ∙ (steps row below).bytes),
    )
