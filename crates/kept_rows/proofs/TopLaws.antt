-- One more row among the first ones, and all rows.
use Rattle.std.proofs.Common.{◌≡◌, ◌∙◌, ◌++◌, ◌<◌, ◌≤◌, ◌+◌, ℕ, zero, suc, Bool, true, false, List}
use Rattle.std.proofs.Common.{[], ◌∷◌, Vec, Global, fold, length, map, take, take-take, refl, sym}
use Rattle.std.proofs.Common.{take_all, take_at}
use Rattle.std.proofs.lemmas.List.{length-map, map-append}
use Rattle.std.proofs.lemmas.Simd.{map-map}
use Rattle.std.proofs.Common.{Ordering, Less, Equal, Greater, ap, arith}
use Rattle.std.proofs.Common.{Option, Some, None, IfOk, IfSome, IsSome, Result, Ok, Err}
use Rattle.std.proofs.Common.{if◌then◌else◌, map-id}
use Rattle.std.specs.Prelude.{flat_map, vec_items}
use Rattle.std.specs.List.{AllZip}
use Rattle.std.proofs.lemmas.Slice.Zip.{AllZip-map}
use Rattle.std.specs.Cmp.Lexicographic.{slice_cmp}
use Rattle.std.specs.Ordering.{is_lt, match_ordering, nat_cmp}
use Rattle.std.specs.Ordering.{ordering_then}
use Rattle.std.specs.BTreeMap.{insert_entry}
use Rattle.std.specs.Map.{values_of}
use Rattle.kept_rows.specs.FirstRows.{Row, row_line}
use Rattle.kept_rows.specs.TopRows.{AreFirstSorted, AreNumberedBelow, Stored, Top, kept_row}
use Rattle.kept_rows.specs.TopRows.{with_added, with_row}

abbrev Place : Type 0
Place = Vec ℕ Global × ℕ

abbrev place_cmp : Place → Place → Ordering
place_cmp p q = ordering_then (slice_cmp nat_cmp p.0.items q.0.items) (nat_cmp p.1 q.1)

-- ---- one more row

later : (m n : ℕ) → m < n → nat_cmp n m ≡ Greater
later m n low = grind (arith, low)

inserted_at : (p : Place) (line : Vec ℕ Global) (s : Stored) (stored : List Stored) (o : Ordering)
    → slice_cmp nat_cmp p.0.items s.0.0.items ≡ o → s.0.1 < p.1
    → map kept_row (insert_entry place_cmp stored p line)
    ≡ with_row (map kept_row stored) (kept_row (p, line))
    → map kept_row (insert_entry place_cmp (s ∷ stored) p line)
    ≡ with_row (map kept_row (s ∷ stored)) (kept_row (p, line))
inserted_at p line s stored Less is low rest = rw is refl
inserted_at p line s stored Equal is low rest =
    rw (is, later s.0.1 p.1 low) (ap (λ rows. kept_row s ∷ rows) rest)
inserted_at p line s stored Greater is low rest =
    rw is (ap (λ rows. kept_row s ∷ rows) rest)

-- a row comes after those of its key
pub row_inserted : (p : Place) (line : Vec ℕ Global) (stored : List Stored)
    → AreNumberedBelow p.1 stored
    → map kept_row (insert_entry place_cmp stored p line)
    ≡ with_row (map kept_row stored) (kept_row (p, line))
row_inserted p line [] below = refl
row_inserted p line (s ∷ stored) (low, below) =
    inserted_at p line s stored (slice_cmp nat_cmp p.0.items s.0.0.items) refl low
    (row_inserted p line stored below)

-- ---- numbers

below_more : (n : ℕ) (stored : List Stored) → AreNumberedBelow n stored
    → AreNumberedBelow (n + 1) stored
below_more n [] below = tt
below_more n (s ∷ stored) (low, below) = (omega (arith, low), below_more n stored below)

numbered_at : (p : Place) (line : Vec ℕ Global) (s : Stored) (stored : List Stored) (o : Ordering)
    → s.0.1 < p.1 → AreNumberedBelow p.1 stored
    → AreNumberedBelow (p.1 + 1) (insert_entry place_cmp stored p line)
    → AreNumberedBelow (p.1 + 1)
    (match_ordering o ((p, line) ∷ s ∷ stored) ((s.0, line) ∷ stored)
    (s ∷ insert_entry place_cmp stored p line))
numbered_at p line s stored Less low below rest =
    (omega arith, (omega (arith, low), below_more p.1 stored below))
numbered_at p line s stored Equal low below rest =
    (omega (arith, low), below_more p.1 stored below)
numbered_at p line s stored Greater low below rest = (omega (arith, low), rest)

pub numbered_inserted : (p : Place) (line : Vec ℕ Global) (stored : List Stored)
    → AreNumberedBelow p.1 stored
    → AreNumberedBelow (p.1 + 1) (insert_entry place_cmp stored p line)
numbered_inserted p line [] below = (omega arith, tt)
numbered_inserted p line (s ∷ stored) (low, below) =
    numbered_at p line s stored (place_cmp p s.0) low below (numbered_inserted p line stored below)

pub numbered_front : (n : ℕ) (stored others : List Stored) → AreNumberedBelow n (stored ++ others)
    → AreNumberedBelow n stored
numbered_front n [] others below = tt
numbered_front n (s ∷ stored) others (low, below) = (low, numbered_front n stored others below)

-- ---- all rows

same_front : (n : ℕ) (s : Row) (rows : List Row) → take n (s ∷ take n rows) ≡ take n (s ∷ rows)
same_front zero s rows = refl
same_front (suc n) s rows = ap (λ (rs : List Row). s ∷ rs) (take-take n (suc n) rows (omega arith))

front_at : (n : ℕ) (s r : Row) (rows : List Row) (b : Bool)
    → is_lt (slice_cmp nat_cmp r.key s.key) ≡ b
    → take n (with_row (take n rows) r) ≡ take n (with_row rows r)
    → take (suc n) (with_row (s ∷ take n rows) r) ≡ take (suc n) (with_row (s ∷ rows) r)
front_at n s r rows true is rest = rw is (ap (λ (rs : List Row). r ∷ rs) (same_front n s rows))
front_at n s r rows false is rest = rw is (ap (λ (rs : List Row). s ∷ rs) rest)

-- what is not among the first rows is not when one more comes
front_with : (n : ℕ) (rows : List Row) (r : Row)
    → take n (with_row (take n rows) r) ≡ take n (with_row rows r)
front_with zero rows r = refl
front_with (suc n) [] r = refl
front_with (suc n) (s ∷ rows) r =
    front_at n s r rows (is_lt (slice_cmp nat_cmp r.key s.key)) refl (front_with n rows r)

front_all : (n : ℕ) (before rows : List Row)
    → fold with_added (record { limit = n; rows = take n before }) rows
    ≡ record { limit = n; rows = take n (fold with_row before rows) }
front_all n before [] = refl
front_all n before (r ∷ rows) =
    ap (λ (kept : List Row). fold with_added (record { limit = n; rows = kept }) rows)
    (front_with n before r)
    ∙ front_all n (with_row before r) rows

none : (n : ℕ) → take {A = Row} n [] ≡ []
none zero = refl
none (suc n) = refl

pub first_sorted : AreFirstSorted
first_sorted n rows =
    ap (λ (kept : List Row). fold with_added (record { limit = n; rows = kept }) rows)
    (sym (none n))
    ∙ front_all n [] rows

-- ---- what is kept after one more row

abbrev view_of : ℕ → List Stored → Top
view_of limit stored = record { limit = limit; rows = map kept_row stored }

added : (p : Place) (line : Vec ℕ Global) (old more : List Stored) (top : Top) (limit : ℕ)
    (key bytes : List ℕ) → AreNumberedBelow p.1 old → more ≡ insert_entry place_cmp old p line
    → p.0.items ≡ key → line.items ≡ bytes → view_of limit old ≡ top
    → map kept_row more ≡ with_row top.rows (record { key = key; line = bytes })
added p line old more top limit key bytes below is keys lines view =
    ap (map kept_row) is ∙ row_inserted p line old below
    ∙ ap (λ (r : Row). with_row (map kept_row old) r) (rw (keys, lines) refl)
    ∙ ap (λ (t : Top). with_row t.rows (record { key = key; line = bytes })) view

-- no row is dropped
pub all_kept : (p : Place) (line : Vec ℕ Global) (old more : List Stored) (top : Top) (limit : ℕ)
    (key bytes : List ℕ) → AreNumberedBelow p.1 old → more ≡ insert_entry place_cmp old p line
    → p.0.items ≡ key → line.items ≡ bytes → view_of limit old ≡ top → length more ≤ limit
    → view_of limit more ≡ with_added top (record { key = key; line = bytes })
all_kept p line old more top limit key bytes below is keys lines view fits =
    let same : limit ≡ top.limit = ap (λ (t : Top). t.limit) view in
    let rows : map kept_row more
    ≡ take limit (with_row top.rows (record { key = key; line = bytes })) =
    sym (take_all limit (map kept_row more) (rw (length-map more kept_row) fits))
    ∙ ap (take limit) (added p line old more top limit key bytes below is keys lines view) in
    rw (rows, same) refl

-- the last row is dropped
pub first_kept : (p : Place) (line : Vec ℕ Global) (old more less : List Stored) (last : Stored)
    (top : Top) (limit : ℕ) (key bytes : List ℕ) → AreNumberedBelow p.1 old
    → more ≡ insert_entry place_cmp old p line → p.0.items ≡ key → line.items ≡ bytes
    → view_of limit old ≡ top → more ≡ less ++ last ∷ [] → length less ≡ limit
    → view_of limit less ≡ with_added top (record { key = key; line = bytes })
first_kept p line old more less last top limit key bytes below is keys lines view parts fits =
    let same : limit ≡ top.limit = ap (λ (t : Top). t.limit) view in
    let rows : map kept_row less
    ≡ take limit (with_row top.rows (record { key = key; line = bytes })) =
    sym (take_at (map kept_row less) (kept_row last ∷ []) limit
    (length-map less kept_row ∙ fits))
    ∙ ap (take limit)
    (sym (map-append kept_row less (last ∷ [])) ∙ ap (map kept_row) (sym parts)
    ∙ added p line old more top limit key bytes below is keys lines view) in
    rw (rows, same) refl

-- ---- the last row

-- there is a last row among some
pub dropped_last : (result : Option Stored) (less more : List Stored)
    → IfSome result (λ last. more ≡ less ++ last ∷ []) → IsSome result
    → (last : Stored) × (more ≡ less ++ last ∷ [])
dropped_last (Some last) less more parts some = (last, parts)
dropped_last None less more parts some = absurd cc

pub one_at_most : (b : Bool) → (if b then 0 else 1) ≤ 1
one_at_most true = omega arith
one_at_most false = omega arith

-- ---- the rows at the end

pub lines_of : {E : Type 0} (stored : List Stored) (result : Result (Vec (Vec ℕ Global) Global) E)
    → IfOk result (λ lines. lines.items ≡ values_of stored)
    → IfOk result
    (λ lines. map (λ (line : Vec ℕ Global). line.items) lines.items
    ≡ map row_line (map kept_row stored))
lines_of stored (Ok lines) is =
    ap (map (λ (line : Vec ℕ Global). line.items)) is
    ∙ map-map (λ (line : Vec ℕ Global). line.items) (λ (s : Stored). s.1) stored
    ∙ sym (map-map row_line kept_row stored)
lines_of stored (Err e) is = tt

-- ---- lines joined

flat_same : (lines : List (Vec ℕ Global)) (rows : List Row)
    → map (λ line. line.items) lines ≡ map row_line rows
    → flat_map vec_items lines ≡ flat_map row_line rows
flat_same [] [] same = refl
flat_same (l ∷ ls) (r ∷ rs) same =
    let head : l.items ≡ row_line r = cc in
    let tail : map (λ line. line.items) ls ≡ map row_line rs = cc in
    ap (λ bytes. bytes ++ flat_map vec_items ls) head
    ∙ ap (λ bytes. row_line r ++ bytes) (flat_same ls rs tail)
flat_same [] (r ∷ rs) same = absurd cc
flat_same (l ∷ ls) [] same = absurd cc

pub joined : {E : Type 0} (result : Result (Vec ℕ Global) E) (lines : List (Vec ℕ Global))
    (rows : List Row) → map (λ line. line.items) lines ≡ map row_line rows
    → IfOk result (λ bytes. AllZip (λ x y. y ≡ x) (flat_map vec_items lines) bytes.items)
    → IfOk result (λ bytes. bytes.items ≡ flat_map row_line rows)
joined (Ok bytes) lines rows same clones =
    AllZip-map (λ x. x) (flat_map vec_items lines) bytes.items clones
    ∙ map-id (flat_map vec_items lines) ∙ flat_same lines rows same
joined (Err e) lines rows same clones = tt
