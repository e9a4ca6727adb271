-- All rows of runs, from the first one to the last.
use Rattle.std.proofs.Common.{◌≡◌, ◌≢◌, ◌⊎◌, inl, inr, ℕ, zero, suc, ◌<◌, Bool, true, false, cond}
use Rattle.std.proofs.Common.{List, [], ◌∷◌, ◌++◌, length, set, get_or, refl, sym, ap, ap₂, ◌∙◌, subst}
use Rattle.std.proofs.Common.{append_assoc, append-nil, Option, None, Some, flat_map, map, reverse}
use Rattle.std.proofs.Common.{arith, not, ◌&&◌, get_or-set_other, get_or-set_same, length-set}
use Rattle.std.proofs.Common.{if◌then◌else◌, Ordering, Less, Equal, Greater}
use mathlib.Core.List.{reverse-cons}
use Rattle.std.proofs.lemmas.Bool.{cases_eq}
use Rattle.std.proofs.lemmas.Cmp.{nat_list_cmp_total}
use Rattle.std.proofs.lemmas.List.Concat.{flat_map-append}
use Rattle.std.proofs.KnownBytes.{Appends-kept}
use Rattle.std.specs.Prelude.{nat_eq}
use Rattle.std.specs.Cmp.Lexicographic.{pointwise, slice_cmp, texts_ties}
use Rattle.std.specs.Io.KnownBytes.{Appends, Keeps}
use Rattle.std.specs.List.Sorted.{IsSorted, IsStable, ties}
use Rattle.std.specs.Ordering.{is_eq, is_lt, nat_cmp, on, ordering_reverse}
use Rattle.answer_lines.specs.Output.{AppendsPrefix}
use Rattle.answer_lines.proofs.Output.{Known, appends_both, appends_nothing, prefix_after_all}
use Rattle.answer_lines.proofs.Output.{prefix_of_all, prefix_of_more}
use Rattle.kohiblad_shell.specs.declared.sort.Arrangement.{Arrangement}
use Rattle.kohiblad_shell.specs.declared.sort.Keyed.{Keyed}
use Rattle.kohiblad_shell.specs.declared.sorted_run.LastKey.{LastKey}
use Rattle.kohiblad_shell.specs.declared.sorted_run.RunHead.{RunHead}
use Rattle.kohiblad_shell.specs.declared.sorted_run.RowParts.{RowParts}
use Rattle.kohiblad_shell.specs.declared.sorted_run.RowParts.TheVariants.{Line, KeyAndLine}
use Rattle.kohiblad_shell.specs.Sorts.{AreSorted, arranged, distinct, has_key, keyed_bytes, keyed_key}
use Rattle.kohiblad_shell.specs.Sorts.{turned}
use Rattle.kohiblad_shell.specs.SortedRuns.{BeginsRuns, HasRun, HaveLengths, HaveRuns, IsFirst}
use Rattle.kohiblad_shell.specs.SortedRuns.{IsFirstInput, MergesRuns, ReadHeads, ReadsHead, WritesIf}
use Rattle.kohiblad_shell.specs.SortedRuns.{has_last_key, head_parts, is_turned, passes_over}
use Rattle.kohiblad_shell.specs.SortedRuns.{row_parts, turned_if}
use Rattle.kohiblad_shell.proofs.OrderLaws.{Up, all, chosen, facing, filter_isort, in_turn, isort}
use Rattle.kohiblad_shell.proofs.OrderLaws.{parts_merged, perm_isort, same_sorted, shaped, singles}
use Rattle.kohiblad_shell.proofs.OrderLaws.{sorted_from, tied, turn, up_from, up_isort, up_reverse}
use Rattle.kohiblad_shell.proofs.OrderLaws.{up_singles}
use Rattle.kohiblad_shell.proofs.SortedRunLaws.{no_both}
use Rattle.kohiblad_shell.proofs.SortedRunSteps.{Holds, chosen_new, chosen_over, first_of_all}
use Rattle.kohiblad_shell.proofs.SortedRunSteps.{last_ends, last_if, last_row, parts-append}
use Rattle.kohiblad_shell.proofs.SortedRunSteps.{read_holds, row_less, row_order}

-- ---- rows as they are arranged

ties_of : (o : Ordering) → not (is_lt o) && not (is_lt (ordering_reverse o)) ≡ is_eq o
ties_of Less = refl
ties_of Equal = refl
ties_of Greater = refl

tie_is : (x y : Keyed) → pointwise nat_eq x.key.now y.key.now ≡ ties row_less x y
tie_is x y =
    texts_ties x.key.now y.key.now
    ∙ sym (ap (λ o. not (is_lt (slice_cmp nat_cmp x.key.now y.key.now)) && not (is_lt o))
    (nat_list_cmp_total.antisymm y.key.now x.key.now)
    ∙ ties_of (slice_cmp nat_cmp x.key.now y.key.now))

has_is : (last : Option Keyed) (x : Keyed) → has_key last x ≡ tied row_less last x
has_is None x = refl
has_is (Some l) x = tie_is l x

distinct-is : (last : Option Keyed) (rows : List Keyed)
    → distinct last rows ≡ singles row_less last rows
distinct-is last [] = refl
distinct-is last (x ∷ rows) =
    ap₂ (λ (t : Bool) (l : List Keyed). cond t l (x ∷ l)) (has_is last x)
    (distinct-is (Some x) rows)

turned-is : (t : Bool) (rows : List Keyed) → turned t rows ≡ turn t rows
turned-is true rows = refl
turned-is false rows = refl

chosen-is : (u : Bool) (rows : List Keyed)
    → cond u (distinct None rows) rows ≡ chosen row_less u None rows
chosen-is true rows = distinct-is None rows
chosen-is false rows = refl

arranged-is : (a : Arrangement) (rows : List Keyed)
    → arranged a (isort row_less rows) ≡ shaped row_less a.is_reversed a.is_unique rows
arranged-is a rows =
    turned-is a.is_reversed
    (cond a.is_unique (distinct None (isort row_less rows)) (isort row_less rows))
    ∙ ap (turn a.is_reversed) (chosen-is a.is_unique (isort row_less rows))

sorted-is : (read sorted : List Keyed) → IsSorted (on keyed_key (slice_cmp nat_cmp)) sorted
    → IsStable (on keyed_key (slice_cmp nat_cmp)) read sorted → sorted ≡ isort row_less read
sorted-is read sorted order stable =
    same_sorted row_less row_order sorted (isort row_less read)
    (up_from row_less row_order sorted order) (up_isort row_less row_order read)
    (λ a. stable a ∙ sym (filter_isort row_less row_order a read))

shape_of : (a : Arrangement) (part : List ℕ) (rows : List Keyed) (s : AreSorted a part rows)
    → rows ≡ shaped row_less a.is_reversed a.is_unique s.read
shape_of a part rows s =
    s.rows_are ∙ ap (arranged a) (sorted-is s.read s.sorted s.order s.stable)
    ∙ arranged-is a s.read

are_sorted : (a : Arrangement) (part : List ℕ) (read rows : List Keyed)
    → part ≡ flat_map keyed_bytes read
    → rows ≡ shaped row_less a.is_reversed a.is_unique read → AreSorted a part rows
are_sorted a part read rows bytes is = record {
  read = read;
  sorted = isort row_less read;
  of_bytes = bytes;
  permutation = perm_isort row_less read;
  order = sorted_from row_less row_order (isort row_less read) (up_isort row_less row_order read);
  stable = λ x. filter_isort row_less row_order x read;
  rows_are = is ∙ sym (arranged-is a read);
}

up_shaped : (r u : Bool) (rows : List Keyed) → Up (facing row_less r) (shaped row_less r u rows)
up_shaped false false rows = up_isort row_less row_order rows
up_shaped false true rows =
    up_singles row_less None (isort row_less rows) (up_isort row_less row_order rows)
up_shaped true false rows =
    up_reverse row_less (isort row_less rows) (up_isort row_less row_order rows)
up_shaped true true rows =
    up_reverse row_less (singles row_less None (isort row_less rows))
    (up_singles row_less None (isort row_less rows) (up_isort row_less row_order rows))

-- ---- the rows of runs

-- these rows are left, sorted
abbrev pub IsLeft : Bool → Known → List Keyed → Type 0
IsLeft r known rows = (known ≡ Some (flat_map keyed_bytes rows))
    × (HaveLengths rows × Up (facing row_less r) rows)

module _ {R : Type 0} (remaining : R → Known) (r : Bool) where
  abbrev pub Lefts : List R → List (List Keyed) → Type 0
  Lefts [] [] = Unit {0}
  Lefts [] (rows ∷ lists) = ⊥
  Lefts (x ∷ readers) [] = ⊥
  Lefts (x ∷ readers) (rows ∷ lists) = IsLeft r (remaining x) rows × Lefts readers lists

  lefts_push : (readers : List R) (lists : List (List Keyed)) (x : R) (rows : List Keyed)
      → Lefts readers lists → IsLeft r (remaining x) rows
      → Lefts (readers ++ x ∷ []) (lists ++ rows ∷ [])
  lefts_push [] [] x rows p q = (q, tt)
  lefts_push [] (l ∷ lists) x rows p q = absurd p
  lefts_push (y ∷ readers) [] x rows p q = absurd p
  lefts_push (y ∷ readers) (l ∷ lists) x rows p q =
      (p.0, lefts_push readers lists x rows p.1 q)

  lefts_reverse : (readers : List R) (lists : List (List Keyed)) → Lefts readers lists
      → Lefts (reverse readers) (reverse lists)
  lefts_reverse [] [] p = tt
  lefts_reverse [] (l ∷ lists) p = absurd p
  lefts_reverse (y ∷ readers) [] p = absurd p
  lefts_reverse (y ∷ readers) (l ∷ lists) p =
      rw (reverse-cons y readers, reverse-cons l lists)
      (lefts_push (reverse readers) (reverse lists) y l (lefts_reverse readers lists p.1) p.0)

  lefts_turned : (t : Bool) (readers : List R) (lists : List (List Keyed)) → Lefts readers lists
      → Lefts (turned_if t readers) (turn t lists)
  lefts_turned true readers lists p = lefts_reverse readers lists p
  lefts_turned false readers lists p = p

  lefts_count : (readers : List R) (lists : List (List Keyed)) → Lefts readers lists
      → length lists ≡ length readers
  lefts_count [] [] p = refl
  lefts_count [] (l ∷ lists) p = absurd p
  lefts_count (y ∷ readers) [] p = absurd p
  lefts_count (y ∷ readers) (l ∷ lists) p = ap suc (lefts_count readers lists p.1)

  lefts_at : (readers : List R) (lists : List (List Keyed)) → Lefts readers lists
      → (j : ℕ) (x : R) → j < length readers
      → IsLeft r (remaining (get_or readers j x)) (get_or lists j [])
  lefts_at [] lists p j x low = absurd (omega (arith, low))
  lefts_at (y ∷ readers) [] p j x low = absurd p
  lefts_at (y ∷ readers) (l ∷ lists) p zero x low = p.0
  lefts_at (y ∷ readers) (l ∷ lists) p (suc j) x low =
      lefts_at readers lists p.1 j x (omega (arith, low))

module _ {R : Type 0} (remaining : R → Known) (a : Arrangement) where
  abbrev shape : List Keyed → List Keyed
  shape = shaped row_less a.is_reversed a.is_unique

  pub record Runs (readers : List R) (parts : List (List ℕ)) : Type 0 where
    pub reads : List (List Keyed)
    pub bytes : flat_map (λ part. part) parts ≡ flat_map keyed_bytes (all reads)
    pub lefts : Lefts remaining a.is_reversed readers (map shape reads)

  runs_more : (reader : R) (readers : List R) (part : List ℕ) (parts : List (List ℕ))
      (known : Known) → remaining reader ≡ known → HasRun a known part → Runs readers parts
      → Runs (reader ∷ readers) (part ∷ parts)
  runs_more reader readers part parts None is has rest = absurd has
  runs_more reader readers part parts (Some run) is has rest =
      let shape_is : has.rows ≡ shape has.sorted.read = shape_of a part has.rows has.sorted in
      record {
        reads = has.sorted.read ∷ rest.reads;
        bytes = ap₂ (λ (x y : List ℕ). x ++ y) has.sorted.of_bytes rest.bytes
            ∙ sym (flat_map-append keyed_bytes has.sorted.read (all rest.reads));
        lefts = (
          (
            is ∙ ap Some (has.bytes ∙ ap (flat_map keyed_bytes) shape_is),
            (
              subst HaveLengths shape_is has.lengths,
              up_shaped a.is_reversed a.is_unique has.sorted.read,
            ),
          ),
          rest.lefts,
        );
      }

  runs_of : (readers : List R) (parts : List (List ℕ)) → HaveRuns remaining a readers parts
      → Runs readers parts
  runs_of [] [] have = record { reads = []; bytes = refl; lefts = tt }
  runs_of [] (part ∷ parts) have = absurd have
  runs_of (reader ∷ readers) [] have = absurd have
  runs_of (reader ∷ readers) (part ∷ parts) have =
      runs_more reader readers part parts (remaining reader) refl have.0
      (runs_of readers parts have.1)

-- ---- one row more

-- the next row of a run that has one
pub record Next (head : RunHead) (known : Known) (rows : List Keyed) : Type 0 where
  pub row : Keyed
  pub later : List Keyed
  pub is : rows ≡ row ∷ later
  pub key : head.key.items ≡ row.key.now
  pub line : head.line.items ≡ row.line.now
  pub left : known ≡ Some (flat_map keyed_bytes later)
  pub lengths : HaveLengths (row ∷ later)

next_of : (head : RunHead) (known : Known) (rows : List Keyed) → Holds head known rows
    → head.is_there ≡ true → Next head known rows
next_of head known [] holds there = absurd (no_both head.is_there there holds)
next_of head known (x ∷ xs) holds there = record {
  row = x;
  later = xs;
  is = refl;
  key = holds.1.0;
  line = holds.1.1.0;
  left = holds.1.1.1.0;
  lengths = holds.1.1.1.1;
}

parts_are : (what : RowParts) (head : RunHead) (x : Keyed) → head.key.items ≡ x.key.now
    → head.line.items ≡ x.line.now → head_parts what head ≡ row_parts what x
parts_are Line head x key line = line
parts_are KeyAndLine head x key line = rw (key, line) refl

tied_is : (b : Bool) (key : List ℕ) (x : Keyed)
    → b && pointwise nat_eq key x.key.now ≡ tied row_less (last_if b key) x
tied_is true key x = tie_is (record {
  key = record { ref_ptr = (0, 0); now = key };
  line = record { ref_ptr = (0, 0); now = [] };
}) x
tied_is false key x = refl

-- whether the row is passed over, as the order says it
last_is : (last : LastKey) (head : RunHead) (x : Keyed) → head.key.items ≡ x.key.now
    → has_last_key last head ≡ tied row_less (last_row last) x
last_is last head x key =
    ap (λ k. last.is_there && pointwise nat_eq last.key.items k) key
    ∙ tied_is last.is_there last.key.items x

itself : (x : Keyed) → ties row_less x x ≡ true
itself x = go (row_less x x) refl
  where
    go : (t : Bool) → row_less x x ≡ t → not t && not t ≡ true
    go true is = absurd (no_both (row_less x x) is (row_order.one_way x x is))
    go false is = refl

same_key : (l x : Keyed) → l.key.now ≡ x.key.now → ties row_less l x ≡ true
same_key l x key = sym (tie_is l x) ∙ ap (λ k. pointwise nat_eq k x.key.now) key
    ∙ tie_is x x ∙ itself x

-- what is written of the row, and what is left after it
pub record Stepped (u : Bool) (what : RowParts) (x : Keyed) (rest : List Keyed)
    (last next : LastKey) (mid new : Known) : Type 0 where
  pub more : List Keyed
  pub output : Appends mid new (flat_map (row_parts what) more)
  pub lengths : HaveLengths more
  pub is : chosen row_less u (last_row last) (x ∷ rest)
      ≡ more ++ chosen row_less u (last_row next) rest

one_part : (what : RowParts) (x : Keyed) → flat_map (row_parts what) (x ∷ []) ≡ row_parts what x
one_part what x = append-nil (row_parts what x)

module _ (what : RowParts) (head : RunHead) (x : Keyed) (xs rest : List Keyed)
    (last : LastKey) (key : head.key.items ≡ x.key.now) (line : head.line.items ≡ x.line.now)
    (fit : HaveLengths (x ∷ xs)) where
  written_one : (mid new : Known) → Appends mid new (head_parts what head)
      → Appends mid new (flat_map (row_parts what) (x ∷ []))
  written_one mid new appends =
      rw (one_part what x) (rw (parts_are what head x key line) at appends)

  last_next : (b : Bool) (k : List ℕ) → b ≡ true → k ≡ x.key.now
      → tied row_less (last_row last) x ≡ false
      → chosen row_less true (last_row last) (x ∷ rest)
      ≡ x ∷ chosen row_less true (last_if b k) rest
  last_next true k there same apart =
      let l : Keyed = record {
        key = record { ref_ptr = (0, 0); now = k };
        line = record { ref_ptr = (0, 0); now = [] };
      } in
      chosen_new (last_row last) l x rest apart (same_key l x same)
  last_next false k there same apart = absurd cc

  module _ (next : LastKey) (mid new : Known) where
    over : (t : Bool) → has_last_key last head ≡ t
        → WritesIf t true what head last next mid new
        → Stepped true what x rest last next mid new
    over true is w = record {
      more = [];
      output = w.1;
      lengths = tt;
      is = chosen_over (last_row last) x rest (sym (last_is last head x key) ∙ is)
          ∙ ap (λ l. chosen row_less true (last_row l) rest) (sym w.0);
    }
    over false is w = record {
      more = x ∷ [];
      output = written_one mid new w.1;
      lengths = (fit.0, (fit.1.0, tt));
      is = last_next next.is_there next.key.items (w.0 refl).0 ((w.0 refl).1 ∙ key)
          (sym (last_is last head x key) ∙ is);
    }

    stepped : (u : Bool) → WritesIf (passes_over u last head) u what head last next mid new
        → Stepped u what x rest last next mid new
    stepped true w = over (has_last_key last head) refl w
    stepped false w = record {
      more = x ∷ [];
      output = written_one mid new w.1;
      lengths = (fit.0, (fit.1.0, tt));
      is = refl;
    }

  -- only a prefix of the row was written
  pub record Broken (u : Bool) (mid new : Known) : Type 0 where
    pub more : List Keyed
    pub tail : List Keyed
    pub output : AppendsPrefix mid new (flat_map (row_parts what) more)
    pub is : chosen row_less u (last_row last) (x ∷ rest) ≡ more ++ tail

  prefix_one : (mid new : Known) → AppendsPrefix mid new (head_parts what head)
      → AppendsPrefix mid new (flat_map (row_parts what) (x ∷ []))
  prefix_one mid new appends =
      rw (one_part what x) (rw (parts_are what head x key line) at appends)

  broken_over : (mid new : Known) (t : Bool) → has_last_key last head ≡ t
      → AppendsPrefix mid new (if t then [] else head_parts what head) → Broken true mid new
  broken_over mid new true is w = record {
    more = [];
    tail = chosen row_less true (last_row last) (x ∷ rest);
    output = w;
    is = refl;
  }
  broken_over mid new false is w = record {
    more = x ∷ [];
    tail = singles row_less (Some x) rest;
    output = prefix_one mid new w;
    is = ap (λ t. cond t (singles row_less (Some x) rest) (x ∷ singles row_less (Some x) rest))
        (sym (last_is last head x key) ∙ is);
  }

  broken : (u : Bool) (mid new : Known)
      → AppendsPrefix mid new (if passes_over u last head then [] else head_parts what head)
      → Broken u mid new
  broken true mid new w = broken_over mid new (has_last_key last head) refl w
  broken false mid new w = record {
    more = x ∷ [];
    tail = rest;
    output = prefix_one mid new w;
    is = refl;
  }

lengths-append : (xs ys : List Keyed) → HaveLengths xs → HaveLengths ys → HaveLengths (xs ++ ys)
lengths-append [] ys p q = q
lengths-append (x ∷ xs) ys p q = (p.0, (p.1.0, lengths-append xs ys p.1.1 q))

none_in : (lists : List (List Keyed)) → ((j : ℕ) → j < length lists → get_or lists j [] ≡ [])
    → all lists ≡ []
none_in [] none = refl
none_in (l ∷ lists) none =
    ap₂ (λ (x y : List Keyed). x ++ y) (none 0 (omega arith))
    (none_in lists (λ j low. none (suc j) (omega (arith, low))))

by_index : (P : ℕ → Type 0) (i : ℕ) → P i → ((j : ℕ) → j ≢ i → P j) → (j : ℕ) → P j
by_index P i one others j = pick (cases_eq j i)
  where
    pick : (j ≡ i) ⊎ (j ≡ i → ⊥) → P j
    pick (inl same) = subst P (sym same) one
    pick (inr other) = others j other

-- ---- the merge

module _ {R : Type 0} (remaining : R → Known) (a : Arrangement) (what : RowParts) where
  -- these rows of all were written, and these lists are left of the runs
  pub record Merging (parts : List (List ℕ)) (runs : List R) (heads : List RunHead)
      (last : LastKey) (old new : Known) : Type 0 where
    pub total : List Keyed
    pub sorted : AreSorted a (flat_map (λ part. part) parts) total
    pub left : List (List Keyed)
    pub count : length left ≡ length heads
    pub holds : (j : ℕ) (x : R) (h : RunHead) → j < length heads
        → Holds (get_or heads j h) (remaining (get_or runs j x)) (get_or left j [])
    pub ups : (j : ℕ) → j < length heads → Up (facing row_less a.is_reversed) (get_or left j [])
    pub written : List Keyed
    pub lengths : HaveLengths written
    pub output : Appends old new (flat_map (row_parts what) written)
    pub is : total ≡ written ++ chosen row_less a.is_unique (last_row last)
        (isort (facing row_less a.is_reversed) (all left))

  -- the same of all parts whose runs these are
  pub record MergingAll (olds : List R) (runs : List R) (heads : List RunHead)
      (last : LastKey) (old new : Known) : Type 0 where
    pub size : length heads ≡ length runs
    pub rows : (parts : List (List ℕ)) → HaveRuns remaining a olds parts
        → Merging parts runs heads last old new

  module _ (olds : List R) where
    -- nothing is written yet
    pub nothing_begins : (out : Known) (parts : List (List ℕ)) → HaveRuns remaining a olds parts
        → BeginsRuns a parts what out out
    nothing_begins out parts have =
        let s : Runs remaining a olds parts = runs_of remaining a olds parts have in
        let rows : List Keyed = shaped row_less a.is_reversed a.is_unique (all s.reads) in
        record {
          rows = rows;
          sorted = are_sorted a (flat_map (λ part. part) parts) (all s.reads) rows s.bytes refl;
          output = prefix_of_more (flat_map (row_parts what) rows)
              (prefix_of_all (appends_nothing out));
        }

    pub merging_starts : (turned news : List R) (heads : List RunHead) (last : LastKey)
        (out : Known) → turned ≡ turned_if (is_turned a) olds → last.is_there ≡ false
        → length news ≡ length turned → ReadHeads remaining turned news heads
        → MergingAll olds news heads last out out
    merging_starts turned news heads last out turn_is none size read = record {
      size = read.count ∙ sym size;
      rows = λ parts have. starts parts (runs_of remaining a olds parts have);
    }
      where
        starts : (parts : List (List ℕ)) → Runs remaining a olds parts
            → Merging parts news heads last out out
        starts parts s =
            let lists : List (List Keyed) = in_turn a.is_reversed a.is_unique
            (map (shaped row_less a.is_reversed a.is_unique) s.reads) in
            let lefts : Lefts remaining a.is_reversed turned lists =
            rw turn_is (lefts_turned remaining a.is_reversed (is_turned a) olds
            (map (shaped row_less a.is_reversed a.is_unique) s.reads) s.lefts) in
            let rows : List Keyed = shaped row_less a.is_reversed a.is_unique (all s.reads) in
            let at : (j : ℕ) (x : R) → j < length heads
            → IsLeft a.is_reversed (remaining (get_or turned j x)) (get_or lists j []) =
            λ j x low. lefts_at remaining a.is_reversed turned lists lefts j x
            (omega (arith, low, read.count)) in
            record {
              total = rows;
              sorted = are_sorted a (flat_map (λ part. part) parts) (all s.reads) rows s.bytes refl;
              left = lists;
              count = lefts_count remaining a.is_reversed turned lists lefts ∙ sym read.count;
              holds = λ j x h low. read_holds (get_or heads j h) (remaining (get_or news j x))
                  (get_or lists j []) (at j x low).1.0
                  (rw (at j x low).0 at (read.read j x h (omega (arith, low, read.count))));
              ups = λ j low. up_at j low lists (at j);
              written = [];
              lengths = tt;
              output = appends_nothing out;
              is = sym (parts_merged row_less row_order a.is_reversed a.is_unique s.reads)
                  ∙ ap (λ b. chosen row_less a.is_unique (last_if b last.key.items)
                  (isort (facing row_less a.is_reversed) (all lists))) (sym none);
            }
          where
            up_at : (j : ℕ) → j < length heads → (lists : List (List Keyed))
                → ((x : R) → j < length heads
                → IsLeft a.is_reversed (remaining (get_or turned j x)) (get_or lists j []))
                → Up (facing row_less a.is_reversed) (get_or lists j [])
            up_at j low lists each = some turned (omega (arith, low, read.count)) each
              where
                some : (readers : List R) → j < length readers
                    → ((x : R) → j < length heads
                    → IsLeft a.is_reversed (remaining (get_or turned j x)) (get_or lists j []))
                    → Up (facing row_less a.is_reversed) (get_or lists j [])
                some [] less each' = absurd (omega (arith, less))
                some (y ∷ readers) less each' = (each' y low).1.1

  module _ (parts : List (List ℕ)) (runs : List R) (heads : List RunHead) (last : LastKey)
      (old mid : Known) (m : Merging parts runs heads last old mid) where
    -- the merge ends early
    pub merging_stops : (new : Known) → Keeps mid new → BeginsRuns a parts what old new
    merging_stops new kept =
        let later : List Keyed = chosen row_less a.is_unique (last_row last)
        (isort (facing row_less a.is_reversed) (all m.left)) in
        record {
          rows = m.total;
          sorted = m.sorted;
          output = rw (m.is, parts-append what m.written later)
              (prefix_of_more (flat_map (row_parts what) later)
              (prefix_of_all (Appends-kept old mid new (flat_map (row_parts what) m.written)
              m.output kept)));
        }

    -- no row is left
    pub merging_ends : length heads ≡ length runs
        → IsFirstInput heads a.is_reversed (length heads) None → (new : Known)
        → Keeps mid new → MergesRuns a parts what old new
    merging_ends size none new kept =
        let empty : all m.left ≡ [] = none_in m.left (λ j low. gone j (omega (arith, low, m.count))) in
        let whole : m.total ≡ m.written =
        m.is ∙ ap (λ l. m.written ++ chosen row_less a.is_unique (last_row last)
        (isort (facing row_less a.is_reversed) l)) empty
        ∙ ap (λ l. m.written ++ l) (last_ends a.is_unique (last_row last))
        ∙ append-nil m.written in
        record {
          rows = m.written;
          sorted = subst (AreSorted a (flat_map (λ part. part) parts)) whole m.sorted;
          lengths = m.lengths;
          output = Appends-kept old mid new (flat_map (row_parts what) m.written) m.output kept;
        }
      where
        is_none : (head : RunHead) (known : Known) (rows : List Keyed) → Holds head known rows
            → head.is_there ≡ false → rows ≡ []
        is_none head known [] held not = refl
        is_none head known (y ∷ rows) held not =
            absurd (no_both head.is_there held.0 not)

        gone : (j : ℕ) → j < length heads → get_or m.left j [] ≡ []
        gone j low = some runs heads (omega (arith, low, size)) low
          where
            some : (rs : List R) (hs : List RunHead) → j < length rs → j < length hs
                → get_or m.left j [] ≡ []
            some [] hs less less' = absurd (omega (arith, less))
            some (x ∷ rs) [] less less' = absurd (omega (arith, less'))
            some (x ∷ rs) (h ∷ hs) less less' =
                is_none (get_or heads j h) (remaining (get_or runs j x)) (get_or m.left j [])
                (m.holds j x h low) (none j h low)

    module _ (i : ℕ) (first : IsFirst heads a.is_reversed (length heads) i) (x : R)
        (h : RunHead) where
      next : Next (get_or heads i h) (remaining (get_or runs i x)) (get_or m.left i [])
      next = next_of (get_or heads i h) (remaining (get_or runs i x)) (get_or m.left i [])
          (m.holds i x h first.low) (first.there h)

      abbrev after : List (List Keyed)
      after = set m.left i next.later

      abbrev rest : List Keyed
      rest = isort (facing row_less a.is_reversed) (all after)

      total_is : m.total
          ≡ m.written ++ chosen row_less a.is_unique (last_row last) (next.row ∷ rest)
      total_is =
          m.is ∙ ap (λ l. m.written ++ chosen row_less a.is_unique (last_row last) l)
          (first_of_all a.is_reversed heads m.left (λ j. remaining (get_or runs j x)) i h first
          m.count (λ j low. m.holds j x h low) m.ups next.row next.later next.is next.key)

      pub merging_breaks : (new : Known)
          → AppendsPrefix mid new (if passes_over a.is_unique last (get_or heads i h) then []
          else head_parts what (get_or heads i h)) → BeginsRuns a parts what old new
      merging_breaks new w =
          let b : Broken what (get_or heads i h) next.row next.later rest last next.key next.line
          next.lengths a.is_unique mid new =
          broken what (get_or heads i h) next.row next.later rest last next.key next.line
          next.lengths a.is_unique mid new w in
          let whole : m.total ≡ (m.written ++ b.more) ++ b.tail =
          total_is ∙ ap (λ l. m.written ++ l) b.is ∙ sym (append_assoc m.written b.more b.tail) in
          record {
            rows = m.total;
            sorted = m.sorted;
            output = rw (
              whole,
              parts-append what (m.written ++ b.more) b.tail,
              parts-append what m.written b.more,
            )
                (prefix_of_more (flat_map (row_parts what) b.tail)
                (prefix_after_all (flat_map (row_parts what) m.written) m.output b.output));
          }

      module _ (last' : LastKey) (new : Known)
          (w : WritesIf (passes_over a.is_unique last (get_or heads i h)) a.is_unique what
          (get_or heads i h) last last' mid new) where
        step : Stepped a.is_unique what next.row rest last last' mid new
        step = stepped what (get_or heads i h) next.row next.later rest last next.key next.line
            next.lengths last' mid new a.is_unique w

        abbrev later : List Keyed
        later = chosen row_less a.is_unique (last_row last') rest

        whole : m.total ≡ (m.written ++ step.more) ++ later
        whole =
            total_is ∙ ap (λ l. m.written ++ l) step.is
            ∙ sym (append_assoc m.written step.more later)

        output : Appends old new (flat_map (row_parts what) (m.written ++ step.more))
        output = rw (parts-append what m.written step.more)
            (appends_both old mid new (flat_map (row_parts what) m.written)
            (flat_map (row_parts what) step.more) m.output step.output)

        pub merging_faults : BeginsRuns a parts what old new
        merging_faults = record {
          rows = m.total;
          sorted = m.sorted;
          output = rw (whole, parts-append what (m.written ++ step.more) later)
              (prefix_of_more (flat_map (row_parts what) later) (prefix_of_all output));
        }

        pub merging_goes_on : (y : R) (head : RunHead) → i < length runs
            → ReadsHead (remaining (get_or runs i x)) (remaining y) head
            → Merging parts (set runs i y) (set heads i head) last' old new
        merging_goes_on y head low took = record {
          total = m.total;
          sorted = m.sorted;
          left = after;
          count = length-set m.left i next.later ∙ m.count ∙ sym (length-set heads i head);
          holds = λ j z k less. by_index (λ n. n < length heads → HoldsAt z k n) i
              (λ less'. here z k) (λ n other less'. there z k n other less') j
              (omega (arith, less, length-set heads i head));
          ups = λ j less. by_index (λ n. n < length heads
              → Up (facing row_less a.is_reversed) (get_or after n [])) i
              (λ less'. rw (get_or-set_same m.left i next.later [] low_left)
              (subst (Up (facing row_less a.is_reversed)) next.is (m.ups i first.low)).1)
              (λ n other less'. rw (get_or-set_other m.left i n next.later [] other)
              (m.ups n less')) j (omega (arith, less, length-set heads i head));
          written = m.written ++ step.more;
          lengths = lengths-append m.written step.more m.lengths step.lengths;
          output = output;
          is = whole;
        }
          where
            HoldsAt : R → RunHead → ℕ → Type 0
            HoldsAt z k n = Holds (get_or (set heads i head) n k)
                (remaining (get_or (set runs i y) n z)) (get_or after n [])

            low_left : i < length m.left
            low_left = omega (arith, first.low, m.count)

            held : Holds head (remaining y) next.later
            held = read_holds head (remaining y) next.later next.lengths.1.1
                (rw next.left at took)

            here : (z : R) (k : RunHead) → HoldsAt z k i
            here z k = rw (
              get_or-set_same heads i head k first.low,
              get_or-set_same runs i y z low,
              get_or-set_same m.left i next.later [] low_left,
            ) held

            there : (z : R) (k : RunHead) (n : ℕ) → n ≢ i → n < length heads → HoldsAt z k n
            there z k n other less =
                rw (
                  get_or-set_other heads i n head k other,
                  get_or-set_other runs i n y z other,
                  get_or-set_other m.left i n next.later [] other,
                ) (m.holds n z k less)

  -- ---- the same of all parts whose runs these are

  some_run : (runs : List R) (i : ℕ) → i < length runs → R
  some_run [] i low = absurd (omega (arith, low))
  some_run (x ∷ runs) i low = x

  module _ (olds runs : List R) (heads : List RunHead) (last : LastKey) (old mid : Known)
      (m : MergingAll olds runs heads last old mid) where
    pub all_stop : (new : Known) → Keeps mid new → (parts : List (List ℕ))
        → HaveRuns remaining a olds parts → BeginsRuns a parts what old new
    all_stop new kept parts have =
        merging_stops parts runs heads last old mid (m.rows parts have) new kept

    pub all_end : IsFirstInput heads a.is_reversed (length heads) None → (new : Known)
        → Keeps mid new → (parts : List (List ℕ)) → HaveRuns remaining a olds parts
        → MergesRuns a parts what old new
    all_end none new kept parts have =
        merging_ends parts runs heads last old mid (m.rows parts have) m.size none new kept

    module _ (i : ℕ) (first : IsFirst heads a.is_reversed (length heads) i) (head : RunHead)
        (at_i : get_or heads i head ≡ head) (new : Known) where
      pub run_low : i < length runs
      run_low = omega (arith, first.low, m.size)

      pub all_break : AppendsPrefix mid new (if passes_over a.is_unique last head then []
          else head_parts what head) → (parts : List (List ℕ))
          → HaveRuns remaining a olds parts → BeginsRuns a parts what old new
      all_break w parts have =
          merging_breaks parts runs heads last old mid (m.rows parts have) i first
          (some_run runs i run_low) head new
          (subst (λ k. AppendsPrefix mid new (if passes_over a.is_unique last k then []
          else head_parts what k)) (sym at_i) w)

      module _ (last' : LastKey)
          (w : WritesIf (passes_over a.is_unique last head) a.is_unique what head last last' mid
          new) where
        placed : WritesIf (passes_over a.is_unique last (get_or heads i head)) a.is_unique what
            (get_or heads i head) last last' mid new
        placed = subst (λ k. WritesIf (passes_over a.is_unique last k) a.is_unique what k last last'
            mid new) (sym at_i) w

        pub all_fault : (parts : List (List ℕ)) → HaveRuns remaining a olds parts
            → BeginsRuns a parts what old new
        all_fault parts have =
            merging_faults parts runs heads last old mid (m.rows parts have) i first
            (some_run runs i run_low) head last' new placed

        pub all_go_on : (x y : R) (next : RunHead) → get_or runs i x ≡ x
            → ReadsHead (remaining x) (remaining y) next
            → MergingAll olds (set runs i y) (set heads i next) last' old new
        all_go_on x y next is took = record {
          size = length-set heads i next ∙ m.size ∙ sym (length-set runs i y);
          rows = λ parts have. merging_goes_on parts runs heads last old mid (m.rows parts have) i
              first x head last' new placed y next run_low
              (subst (λ z. ReadsHead (remaining z) (remaining y) next) (sym is) took);
        }
