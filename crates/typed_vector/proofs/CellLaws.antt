-- A row that is appended to the stored form is one more row.
use Rattle.std.proofs.Common.{◌≡◌, ℕ, suc, Bool, ◌+◌, ◌-◌, ◌≤◌, List, [], ◌∷◌, ◌++◌, take, drop}
use Rattle.std.proofs.Common.{zero, false, true, Some, ◌<◌, get_or, length, refl, sym, ap, ap₂}
use Rattle.std.proofs.Common.{◌∙◌, arith}
use Rattle.std.proofs.Math.Seq.{drop-append_seam, take-length}
use Rattle.std.proofs.lemmas.List.{take-append-le, drop-append-le, length-drop, length-append}
use Rattle.std.specs.Prelude.{slice_get}
use Rattle.typed_vector.specs.Cells.{AreAlike, AreEnds, AreOffsets, Cell, value, cell, cells}
use Rattle.typed_vector.specs.Cells.{rest_cell, rows_from, rows}

-- The first end is at most the size.
pub start-le : (size start : ℕ) (ends : List ℕ) → AreEnds size start ends → start ≤ size
start-le size start [] h = omega arith
start-le size start (e ∷ es) h =
    let later = start-le size e es h.1 in omega (arith, h.0, later)

AreEnds-push : (size more start : ℕ) (ends : List ℕ) → AreEnds size start ends → size ≤ more
    → AreEnds more start (ends ++ more ∷ [])
AreEnds-push size more start [] h le = (omega (arith, h), refl)
AreEnds-push size more start (e ∷ es) h le = (h.0, AreEnds-push size more e es h.1 le)

rows_from-push : (b c : List ℕ) (start end : ℕ) (ends : List ℕ) → AreEnds (length b) start ends
    → end ≡ length b + length c
    → rows_from (b ++ c) start (ends ++ end ∷ []) ≡ rows_from b start ends ++ c ∷ []
rows_from-push b c start end [] h is =
    let size : end - start ≡ length c = omega (arith, h, is) in
    ap (λ (x : List ℕ). x ∷ [])
    (ap₂ (λ (n m : ℕ). take n (drop m (b ++ c))) size h
    ∙ ap (take (length c)) (drop-append_seam b c) ∙ take-length c)
rows_from-push b c start end (e ∷ es) h is =
    let last = start-le (length b) e es h.1 in
    ap₂ (λ (x : List ℕ) (xs : List (List ℕ)). x ∷ xs)
    (ap (take (e - start)) (drop-append-le start b c (omega (arith, h.0, last)))
    ∙ take-append-le (e - start) (drop start b) c (omega (arith, length-drop start b, last, h.0)))
    (rows_from-push b c e end es h.1 is)

pub rows-push : (b c : List ℕ) (end : ℕ) (offsets : List ℕ) → AreOffsets (length b) offsets
    → end ≡ length b + length c
    → rows (b ++ c) (offsets ++ end ∷ []) ≡ rows b offsets ++ c ∷ []
rows-push b c end [] h is = absurd h
rows-push b c end (s ∷ es) h is = rows_from-push b c s end es h.1 is

pub AreOffsets-push : (size more : ℕ) (offsets : List ℕ) → AreOffsets size offsets → size ≤ more
    → AreOffsets more (offsets ++ more ∷ [])
AreOffsets-push size more [] h le = absurd h
AreOffsets-push size more (s ∷ es) h le = (h.0, AreEnds-push size more s es h.1 le)

pub length-rows_from : (b : List ℕ) (start : ℕ) (ends : List ℕ)
    → length (rows_from b start ends) ≡ length ends
length-rows_from b start [] = refl
length-rows_from b start (e ∷ es) = ap (λ n. suc n) (length-rows_from b e es)

pub length-rows : (b : List ℕ) (offsets : List ℕ) → AreOffsets (length b) offsets
    → length (rows b offsets) + 1 ≡ length offsets
length-rows b [] h = absurd h
length-rows b (s ∷ es) h = omega (arith, length-rows_from b s es)

-- The row at an index lies between two offsets, which are inside the bytes.
pub record IsRowAt (b offsets : List ℕ) (i : ℕ) : Type 0 where
  pub low : get_or offsets i 0 ≤ get_or offsets (suc i) 0
  pub high : get_or offsets (suc i) 0 ≤ length b
  pub row : get_or (rows b offsets) i []
      ≡ take (get_or offsets (suc i) 0 - get_or offsets i 0) (drop (get_or offsets i 0) b)

pub row_from-at : (b : List ℕ) (start : ℕ) (ends : List ℕ) (i : ℕ) → AreEnds (length b) start ends
    → i < length ends → IsRowAt b (start ∷ ends) i
row_from-at b start [] i h low = absurd (omega (arith, low))
row_from-at b start (e ∷ es) zero h low =
    record { low = h.0; high = start-le (length b) e es h.1; row = refl }
row_from-at b start (e ∷ es) (suc i) h low =
    let later = row_from-at b e es i h.1 (omega (arith, low)) in
    record { low = later.low; high = later.high; row = later.row }

pub row-at : (b offsets : List ℕ) (i : ℕ) → AreOffsets (length b) offsets
    → i + 1 < length offsets → IsRowAt b offsets i
row-at b [] i h low = absurd h
row-at b (s ∷ es) i h low = row_from-at b s es i h.1 (omega (arith, low))

cells-push : {A : Type 0} (vs : List A) (bs : List Bool) (rs : List (List ℕ)) (v : A) (b : Bool)
    (r : List ℕ)
    → length bs ≡ length vs → length rs ≡ length vs
    → cells (vs ++ v ∷ []) (bs ++ b ∷ []) (rs ++ r ∷ []) ≡ cells vs bs rs ++ cell v b r ∷ []
cells-push [] [] [] v b r hb hr = refl
cells-push [] [] (x ∷ rs) v b r hb hr = absurd (omega (arith, hr))
cells-push [] (x ∷ bs) rs v b r hb hr = absurd (omega (arith, hb))
cells-push (x ∷ vs) [] rs v b r hb hr = absurd (omega (arith, hb))
cells-push (x ∷ vs) (y ∷ bs) [] v b r hb hr = absurd (omega (arith, hr))
cells-push {A = A} (x ∷ vs) (y ∷ bs) (z ∷ rs) v b r hb hr =
    ap (λ (cs : List (Cell A)). cell x y z ∷ cs)
    (cells-push vs bs rs v b r (omega (arith, hb)) (omega (arith, hr)))

pub length-cells : {A : Type 0} (vs : List A) (bs : List Bool) (rs : List (List ℕ))
    → length bs ≡ length vs
    → length rs ≡ length vs → length (cells vs bs rs) ≡ length vs
length-cells [] bs rs hb hr = refl
length-cells (x ∷ vs) [] rs hb hr = absurd (omega (arith, hb))
length-cells (x ∷ vs) (y ∷ bs) [] hb hr = absurd (omega (arith, hr))
length-cells (x ∷ vs) (y ∷ bs) (z ∷ rs) hb hr =
    ap (λ n. suc n) (length-cells vs bs rs (omega (arith, hb)) (omega (arith, hr)))

pub cells-at : {A : Type 0} (vs : List A) (bs : List Bool) (rs : List (List ℕ)) (i : ℕ) (v : A)
    → length bs ≡ length vs → length rs ≡ length vs → i < length vs
    → slice_get (cells vs bs rs) i
    ≡ Some (cell (get_or vs i v) (get_or bs i false) (get_or rs i []))
cells-at [] bs rs i v hb hr low = absurd (omega (arith, low))
cells-at (x ∷ vs) [] rs i v hb hr low = absurd (omega (arith, hb))
cells-at (x ∷ vs) (y ∷ bs) [] i v hb hr low = absurd (omega (arith, hr))
cells-at (x ∷ vs) (y ∷ bs) (z ∷ rs) zero v hb hr low = refl
cells-at (x ∷ vs) (y ∷ bs) (z ∷ rs) (suc i) v hb hr low =
    cells-at vs bs rs i v (omega (arith, hb)) (omega (arith, hr)) (omega (arith, low))

pub length-rests : {A : Type 0} (vs : List A) (bs : List Bool) (rs : List (List ℕ))
    (column : List (Cell A)) → AreAlike vs bs rs → cells vs bs rs ≡ column
    → length rs ≡ length column
length-rests vs bs rs column alike is =
    omega (arith, alike.counted, length-cells vs bs rs alike.flags alike.counted, ap length is)

-- One more row, by what each part has become.
pub pushed_to : {A : Type 0} (vs vs' : List A) (bs bs' : List Bool) (rs rs' : List (List ℕ)) (v : A)
    (is : Bool) (r : List ℕ) → AreAlike vs bs rs → vs' ≡ vs ++ v ∷ [] → bs' ≡ bs ++ is ∷ []
    → rs' ≡ rs ++ r ∷ []
    → AreAlike vs' bs' rs' × (cells vs' bs' rs' ≡ cells vs bs rs ++ cell v is r ∷ [])
pushed_to vs vs' bs bs' rs rs' v is r alike pv pb pr = (
  record {
    flags = omega (
      arith,
      alike.flags,
      ap length pb ∙ length-append bs (is ∷ []),
      ap length pv ∙ length-append vs (v ∷ []),
    );
    counted = omega (
      arith,
      alike.counted,
      ap length pr ∙ length-append rs (r ∷ []),
      ap length pv ∙ length-append vs (v ∷ []),
    );
  },
  rw (pv, pb, pr) (cells-push vs bs rs v is r alike.flags alike.counted),
)

-- What is there of the row at an index.
pub record IsThere {A : Type 0} (vs : List A) (bs : List Bool) (rs : List (List ℕ)) (i : ℕ)
    : Type 0 where
  pub value : i < length vs
  pub flag : i < length bs
  pub is : (v : A) → slice_get (cells vs bs rs) i
      ≡ Some (cell (get_or vs i v) (get_or bs i false) (get_or rs i []))

pub is_there : {A : Type 0} (vs : List A) (bs : List Bool) (rs : List (List ℕ)) (i : ℕ)
    → AreAlike vs bs rs → i < length (cells vs bs rs) → IsThere vs bs rs i
is_there vs bs rs i alike low =
    let value : i < length vs =
    omega (arith, low, length-cells vs bs rs alike.flags alike.counted) in
    record {
      value = value;
      flag = omega (arith, value, alike.flags);
      is = λ v. cells-at vs bs rs i v alike.flags alike.counted value;
    }

pub value_shown : {A : Type 0} (vs : List A) (bs : List Bool) (rs : List (List ℕ)) (i : ℕ)
    → IsThere vs bs rs i → (v : A) → v ≡ get_or vs i v → get_or bs i false ≡ true
    → Some (value v) ≡ slice_get (cells vs bs rs) i
value_shown vs bs rs i there v pv pb =
    sym (there.is v ∙ ap₂ (λ x y. Some (cell x y (get_or rs i []))) (sym pv) pb)

pub rest_shown : {A : Type 0} (vs : List A) (bs : List Bool) (rs : List (List ℕ)) (i : ℕ)
    → IsThere vs bs rs i → (v : A) → get_or bs i false ≡ false
    → Some (rest_cell (get_or rs i [])) ≡ slice_get (cells vs bs rs) i
rest_shown vs bs rs i there v pb =
    sym (there.is v ∙ ap (λ y. Some (cell (get_or vs i v) y (get_or rs i []))) pb)
