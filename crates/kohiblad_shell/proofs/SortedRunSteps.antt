-- Merging runs, row by row.
use Rattle.std.proofs.Common.{◌≡◌, ◌≢◌, ℕ, zero, suc, ◌+◌, ◌<◌, ◌^◌, Bool, true, false, cond}
use Rattle.std.proofs.Common.{List, [], ◌∷◌, ◌++◌, length, take, drop, set, get_or, refl, sym}
use Rattle.std.proofs.Common.{ap, ap₂, ◌∙◌, subst, append_assoc, Option, None, Some}
use Rattle.std.proofs.Common.{flat_map, arith}
use Rattle.std.proofs.Common.{◌≤◌, below_more, get_or-set_other, get_or-set_same, length-append}
use Rattle.std.proofs.Math.ListN.{get_or-append}
use Rattle.std.proofs.Math.Seq.{get_or-append_seam}
use Rattle.std.proofs.lemmas.List.{get_or_default}
use Rattle.std.specs.Int.{w64, to_be_bytes, from_be_bytes}
use Rattle.std.specs.Cmp.{IsStrictWeakOrder}
use Rattle.std.specs.List.Sorted.{ties}
use Rattle.std.proofs.Math.Seq.{drop-append_seam, take-append_seam}
use Rattle.std.proofs.lemmas.Nat.{from_be_bytes-to_be_bytes_8}
use Rattle.answer_lines.proofs.Output.{Known}
use Rattle.jsonb.specs.StoredRow.{row_bytes}
use Rattle.kohiblad_shell.specs.declared.sort.Keyed.{Keyed}
use Rattle.kohiblad_shell.specs.declared.sorted_run.LastKey.{LastKey}
use Rattle.kohiblad_shell.specs.declared.sorted_run.RunHead.{RunHead}
use Rattle.kohiblad_shell.specs.declared.sorted_run.RowParts.{RowParts}
use Rattle.kohiblad_shell.specs.Sorts.{key_and_line, keyed_bytes}
use Rattle.kohiblad_shell.specs.SortedRuns.{HaveLengths, IsFirst, ReadHeads, ReadsHead, TakesIf}
use Rattle.kohiblad_shell.specs.SortedRuns.{is_before, row_parts}
use Rattle.kohiblad_shell.proofs.OrderLaws.{Above, Below, Up, above_append, all, chosen, facing}
use Rattle.kohiblad_shell.proofs.OrderLaws.{above_trans, below_from, isort, isort_first, singles}
use Rattle.kohiblad_shell.proofs.OrderLaws.{switch_left, tied}
use Rattle.kohiblad_shell.proofs.SortedRunLaws.{before_is, facing_order, key_less}

-- ---- a row in its bytes

same_parts : (a b x y : List ℕ) → length a ≡ length b → a ++ x ≡ b ++ y → (a ≡ b) × (x ≡ y)
same_parts a b x y size same = (
  sym (take-append_seam a x) ∙ ap₂ (λ (n : ℕ) (s : List ℕ). take n s) size same
      ∙ take-append_seam b y,
  sym (drop-append_seam a x) ∙ ap₂ (λ (n : ℕ) (s : List ℕ). drop n s) size same
      ∙ drop-append_seam b y,
)

same_row : (f r x y : List ℕ) → length f < 2 ^ 64 → length r < 2 ^ 64
    → row_bytes f ++ x ≡ row_bytes r ++ y → (f ≡ r) × (x ≡ y)
same_row f r x y few short same =
    let lengths = to_be_bytes w64 (length f) in
    let others = to_be_bytes w64 (length r) in
    let parted : lengths ++ (f ++ x) ≡ others ++ (r ++ y) =
    sym (append_assoc lengths f x) ∙ same ∙ append_assoc others r y in
    let (be, later) = same_parts lengths others (f ++ x) (r ++ y) refl parted in
    let size : length f ≡ length r = sym (from_be_bytes-to_be_bytes_8 (length f) few)
    ∙ ap (from_be_bytes w64) be ∙ from_be_bytes-to_be_bytes_8 (length r) short in
    same_parts f r x y size later

-- the next row of a run is the first one of these, of which the others are left
abbrev pub Holds : RunHead → Known → List Keyed → Type 0
Holds head known [] = head.is_there ≡ false
Holds head known (x ∷ xs) = (head.is_there ≡ true) × ((head.key.items ≡ x.key.now)
    × ((head.line.items ≡ x.line.now) × ((known ≡ Some (flat_map keyed_bytes xs))
    × HaveLengths (x ∷ xs))))

no_rows : (t : Bool) (rest key line : List ℕ) → TakesIf t [] rest key line → t ≡ false
no_rows true rest key line took = absurd cc
no_rows false rest key line took = refl

-- a row of a run is read
pub read_holds : (head : RunHead) (known : Known) (rows : List Keyed) → HaveLengths rows
    → ReadsHead (Some (flat_map keyed_bytes rows)) known head → Holds head known rows
read_holds head None [] fit took = absurd took
read_holds head None (x ∷ xs) fit took = absurd took
read_holds head (Some rest) [] fit took =
    no_rows head.is_there rest head.key.items head.line.items took
read_holds head (Some rest) (x ∷ xs) fit took = go head.is_there refl took
  where
    left : List ℕ
    left = flat_map keyed_bytes xs

    one : length head.key.items < 2 ^ 64 → length head.line.items < 2 ^ 64
        → keyed_bytes x ++ left ≡ key_and_line head.key.items head.line.items ++ rest
        → (head.key.items ≡ x.key.now) × ((head.line.items ≡ x.line.now) × (rest ≡ left))
    one few few' is =
        let key = same_row x.key.now head.key.items (row_bytes x.line.now ++ left)
        (row_bytes head.line.items ++ rest) fit.0 few
        (sym (append_assoc (row_bytes x.key.now) (row_bytes x.line.now) left) ∙ is
        ∙ append_assoc (row_bytes head.key.items) (row_bytes head.line.items) rest) in
        let line = same_row x.line.now head.line.items left rest fit.1.0 few' key.1 in
        (sym key.0, (sym line.0, sym line.1))

    go : (t : Bool) → head.is_there ≡ t
        → TakesIf t (flat_map keyed_bytes (x ∷ xs)) rest head.key.items head.line.items
        → Holds head (Some rest) (x ∷ xs)
    go true is took' =
        let parts = one took'.0 took'.1.0 took'.1.1 in
        (is, (parts.0, (parts.1.0, (ap Some parts.1.1, fit))))
    go false is took' = absurd cc

-- ---- the rows of all runs

abbrev pub row_less : Keyed → Keyed → Bool
row_less x y = key_less x.key.now y.key.now

pub row_order : IsStrictWeakOrder row_less
row_order = record {
  one_way = λ x y. (facing_order false).one_way x.key.now y.key.now;
  chain = λ x y z. (facing_order false).chain x.key.now y.key.now z.key.now;
}

pub row_facing : (r : Bool) → IsStrictWeakOrder (facing row_less r)
row_facing false = record {
  one_way = λ x y. row_order.one_way x y;
  chain = λ x y z. row_order.chain x y z;
}
row_facing true = record {
  one_way = λ x y. row_order.one_way y x;
  chain = λ x y z p q. row_order.chain z y x q p;
}

before_rows : (r : Bool) (x y : Keyed) → is_before r x.key.now y.key.now ≡ facing row_less r x y
before_rows false x y = refl
before_rows true x y = before_is true x.key.now y.key.now

module _ (lt : Keyed → Keyed → Bool) where
  below_append : (x : Keyed) (xs ys : List Keyed) → Below lt x xs → Below lt x ys
      → Below lt x (xs ++ ys)
  below_append x [] ys p q = q
  below_append x (y ∷ xs) ys p q = (p.0, below_append x xs ys p.1 q)

  above_all : (x : Keyed) (lists : List (List Keyed))
      → ((j : ℕ) → j < length lists → Above lt x (get_or lists j [])) → Above lt x (all lists)
  above_all x [] each = tt
  above_all x (l ∷ lists) each =
      above_append lt x l (all lists) (each 0 (omega arith))
      (above_all x lists (λ j low. each (suc j) (omega (arith, low))))

  -- a row among those before and after it
  pub record Split (lists : List (List Keyed)) (i : ℕ) (x : Keyed) (xs : List Keyed) : Type 0 where
    pub front : List Keyed
    pub back : List Keyed
    pub whole : all lists ≡ front ++ x ∷ back
    pub rest : all (set lists i xs) ≡ front ++ back
    pub below : Below lt x front
    pub above : Above lt x back

  pub split : (lists : List (List Keyed)) (i : ℕ) (x : Keyed) (xs : List Keyed)
      → i < length lists → get_or lists i [] ≡ x ∷ xs → Above lt x xs
      → ((j : ℕ) → j < i → Below lt x (get_or lists j []))
      → ((j : ℕ) → i < j → j < length lists → Above lt x (get_or lists j []))
      → Split lists i x xs
  split [] i x xs low is up before after = absurd (omega (arith, low))
  split (l ∷ lists) zero x xs low is up before after = record {
    front = [];
    back = xs ++ all lists;
    whole = ap (λ m. m ++ all lists) is;
    rest = refl;
    below = tt;
    above = above_append lt x xs (all lists) up
        (above_all x lists (λ j low'. after (suc j) (omega arith) (omega (arith, low'))));
  }
  split (l ∷ lists) (suc i) x xs low is up before after =
      let s : Split lists i x xs = split lists i x xs (omega (arith, low)) is up
      (λ j less. before (suc j) (omega (arith, less)))
      (λ j more low'. after (suc j) (omega (arith, more)) (omega (arith, low'))) in
      record {
        front = l ++ s.front;
        back = s.back;
        whole = ap (λ m. l ++ m) s.whole ∙ sym (append_assoc l s.front (x ∷ s.back));
        rest = ap (λ m. l ++ m) s.rest ∙ sym (append_assoc l s.front s.back);
        below = below_append x l s.front (before 0 (omega arith)) s.below;
        above = s.above;
      }

  -- the row comes first of all
  pub split_first : (lists : List (List Keyed)) (i : ℕ) (x : Keyed) (xs : List Keyed)
      → Split lists i x xs → isort lt (all lists) ≡ x ∷ isort lt (all (set lists i xs))
  split_first lists i x xs s =
      ap (isort lt) s.whole ∙ isort_first lt s.front x s.back s.below s.above
      ∙ ap (λ l. x ∷ isort lt l) (sym s.rest)

-- ---- one row more

-- the last row that was written, if there is one
abbrev pub last_if : Bool → List ℕ → Option Keyed
last_if true key = Some (record {
  key = record { ref_ptr = (0, 0); now = key };
  line = record { ref_ptr = (0, 0); now = [] };
})
last_if false key = None

abbrev pub last_row : LastKey → Option Keyed
last_row last = last_if last.is_there last.key.items

pub parts-append : (what : RowParts) (xs ys : List Keyed)
    → flat_map (row_parts what) (xs ++ ys)
    ≡ flat_map (row_parts what) xs ++ flat_map (row_parts what) ys
parts-append what [] ys = refl
parts-append what (x ∷ xs) ys =
    ap (λ b. row_parts what x ++ b) (parts-append what xs ys)
    ∙ sym (append_assoc (row_parts what x) (flat_map (row_parts what) xs)
    (flat_map (row_parts what) ys))

pub last_ends : (unique : Bool) (last : Option Keyed)
    → chosen row_less unique last [] ≡ []
last_ends true last = refl
last_ends false last = refl

-- the last row matters by its key alone
singles-key : (l x : Keyed) (rows : List Keyed) → ties row_less l x ≡ true
    → singles row_less (Some l) rows ≡ singles row_less (Some x) rows
singles-key l x [] tie = refl
singles-key l x (y ∷ rows) tie =
    ap (λ t. cond t (singles row_less (Some y) rows) (y ∷ singles row_less (Some y) rows))
    (switch_left row_less row_order l x y tie)

-- what is left after a row that is passed over, and after one that is written
pub chosen_over : (last : Option Keyed) (x : Keyed) (rows : List Keyed)
    → tied row_less last x ≡ true
    → chosen row_less true last (x ∷ rows) ≡ chosen row_less true last rows
chosen_over None x rows is = absurd cc
chosen_over (Some l) x rows is =
    ap (λ t. cond t (singles row_less (Some x) rows) (x ∷ singles row_less (Some x) rows)) is
    ∙ sym (singles-key l x rows is)

pub chosen_new : (last : Option Keyed) (l x : Keyed) (rows : List Keyed)
    → tied row_less last x ≡ false → ties row_less l x ≡ true
    → chosen row_less true last (x ∷ rows) ≡ x ∷ chosen row_less true (Some l) rows
chosen_new last l x rows is tie =
    ap (λ t. cond t (singles row_less (Some x) rows) (x ∷ singles row_less (Some x) rows)) is
    ∙ ap (λ m. x ∷ m) (sym (singles-key l x rows tie))

-- ---- the first row of all is that of the run that comes first

module _ (r : Bool) (heads : List RunHead) (left : List (List Keyed)) (known : ℕ → Known)
    (i : ℕ) (h : RunHead) (first : IsFirst heads r (length heads) i)
    (count : length left ≡ length heads)
    (holds : (j : ℕ) → j < length heads → Holds (get_or heads j h) (known j) (get_or left j []))
    (ups : (j : ℕ) → j < length heads → Up (facing row_less r) (get_or left j [])) where
  before_row : (x : Keyed) → (get_or heads i h).key.items ≡ x.key.now
      → (j : ℕ) → j < i → (ys : List Keyed) → Holds (get_or heads j h) (known j) ys
      → Up (facing row_less r) ys → Below (facing row_less r) x ys
  before_row x key j less [] held up = tt
  before_row x key j less (y ∷ ys) held up =
      below_from (facing row_less r) (row_facing r) x y ys
      (sym (before_rows r x y)
      ∙ ap₂ (λ a b. is_before r a b) (sym key) (sym held.1.0)
      ∙ first.before j h less held.0) up.0

  after_row : (x : Keyed) → (get_or heads i h).key.items ≡ x.key.now
      → (j : ℕ) → i < j → j < length heads → (ys : List Keyed)
      → Holds (get_or heads j h) (known j) ys
      → Up (facing row_less r) ys → Above (facing row_less r) x ys
  after_row x key j more low [] held up = tt
  after_row x key j more low (y ∷ ys) held up =
      let ge : facing row_less r y x ≡ false =
      sym (before_rows r y x) ∙ ap₂ (λ a b. is_before r a b) (sym held.1.0) (sym key)
      ∙ first.others j h more low held.0 in
      (ge, above_trans (facing row_less r) (row_facing r) x y ys ge up.0)

  pub first_of_all : (x : Keyed) (xs : List Keyed) → get_or left i [] ≡ x ∷ xs
      → (get_or heads i h).key.items ≡ x.key.now
      → isort (facing row_less r) (all left) ≡ x ∷ isort (facing row_less r) (all (set left i xs))
  first_of_all x xs is key =
      let low : i < length left = omega (arith, first.low, count) in
      split_first (facing row_less r) left i x xs
      (split (facing row_less r) left i x xs low is
      (subst (Up (facing row_less r)) is (ups i first.low)).0
      (λ j less. before_row x key j less (get_or left j [])
      (holds j (omega (arith, less, first.low))) (ups j (omega (arith, less, first.low))))
      (λ j more low'. after_row x key j more (omega (arith, low', count)) (get_or left j [])
      (holds j (omega (arith, low', count))) (ups j (omega (arith, low', count)))))

-- ---- the first rows

module _ {R : Type 0} (remaining : R → Known) (olds : List R) where
  -- The first rows of some runs were taken.
  pub record Starting (news : List R) (heads : List RunHead) (input : ℕ) : Type 0 where
    pub heads_count : length heads ≡ input
    pub taken : (i : ℕ) → i < input → (r : R) (h : RunHead) → ReadsHead
        (remaining (get_or olds i r)) (remaining (get_or news i r)) (get_or heads i h)
    pub later : (i : ℕ) (r : R) → input ≤ i → get_or news i r ≡ get_or olds i r

  pub starts : Starting olds [] 0
  starts = record {
    heads_count = refl;
    taken = λ i low r h. absurd (omega (arith, low));
    later = λ i r low. refl;
  }

  module _ (news : List R) (heads : List RunHead) (i : ℕ) (s : Starting news heads i)
      (low : i < length news) (size : length news ≡ length olds) (x : R)
      (read : x ≡ get_or news i x) where
    untouched : (r : R) → x ≡ get_or olds i r
    untouched r = read ∙ get_or_default news i x r low ∙ s.later i r (omega arith)

    pub starts_more : (y : R) (next : RunHead) → ReadsHead (remaining x) (remaining y) next
        → Starting (set news i y) (heads ++ next ∷ []) (i + 1)
    starts_more y next took = record {
      heads_count = omega (arith, s.heads_count, length-append heads (next ∷ []));
      taken = below_more Taken i taken_there taken_here;
      later = λ j r more. get_or-set_other news i j y r (λ is. omega (arith, is, more))
          ∙ s.later j r (omega (arith, more));
    }
      where
        Taken : ℕ → Type 0
        Taken j = (r : R) (h : RunHead) → ReadsHead (remaining (get_or olds j r))
            (remaining (get_or (set news i y) j r)) (get_or (heads ++ next ∷ []) j h)

        heads_there : (j : ℕ) (h : RunHead) → j < i
            → get_or (heads ++ next ∷ []) j h ≡ get_or heads j h
        heads_there j h less =
            get_or-append heads (next ∷ []) h j (omega (arith, less, s.heads_count))

        heads_here : (h : RunHead) → get_or (heads ++ next ∷ []) i h ≡ next
        heads_here h =
            ap (λ n. get_or (heads ++ next ∷ []) n h) (sym s.heads_count)
            ∙ get_or-append_seam heads next [] h

        taken_there : (j : ℕ) → j < i → Taken j
        taken_there j less r h =
            let other : j ≢ i = λ is. omega (arith, is, less) in
            rw (heads_there j h less, get_or-set_other news i j y r other) (s.taken j less r h)

        taken_here : Taken i
        taken_here r h =
            rw (heads_here h, get_or-set_same news i y r low, ← untouched r) took

  pub started : (news : List R) (heads : List RunHead) (i : ℕ) → Starting news heads i
      → i ≡ length olds → ReadHeads remaining olds news heads
  started news heads i s all = record {
    count = s.heads_count ∙ all;
    read = λ j r h low. s.taken j (omega (arith, low, all)) r h;
  }
