-- Rows that are merged, one after another.
use Rattle.std.proofs.Common.{◌≡◌, ◌⊎◌, inl, inr, ℕ, zero, suc, ◌+◌, ◌<◌, Bool, true, false, cond}
use Rattle.std.proofs.Common.{List, [], ◌∷◌, ◌++◌, length, take, set, get_or, refl, sym, ap}
use Rattle.std.proofs.Common.{ap₂, ◌∙◌, subst, append_assoc, append-nil, Option, None, Some, IfSome}
use Rattle.std.proofs.Common.{flat_map, fold, option_to_list, Ordering, Less, Equal, Greater, is_ge}
use Rattle.std.proofs.Common.{is_gt, is_le, is_lt, nat_cmp, IsPermutation, IsSorted, Vec, Global}
use Rattle.std.proofs.Common.{◌-◌, Ok, arith, below_more, length-append}
use Rattle.std.proofs.Math.ListN.{get_or-append}
use Rattle.std.proofs.Math.Seq.{get_or-append_seam}
use Rattle.std.proofs.lemmas.Bool.Decides.{nat_tests}
use Rattle.std.proofs.lemmas.Cmp.{nat_cmp_total, nat_list_cmp_total, on_total, then_total}
use Rattle.std.proofs.lemmas.Cmp.{tied_itself, upto}
use Rattle.std.proofs.lemmas.List.{replicate_more, take_more}
use Rattle.std.proofs.lemmas.List.Sorted.{IsPermutation-append_left, IsPermutation-append_right}
use Rattle.std.proofs.lemmas.List.Sorted.{IsPermutation-sym, IsPermutation-to_front}
use Rattle.std.proofs.lemmas.List.Sorted.{IsPermutation-trans}
use Rattle.std.proofs.lemmas.List.Sums.{fold_push}
use Rattle.std.specs.Cmp.{IsTotalOrder}
use Rattle.std.specs.Cmp.Lexicographic.{slice_cmp}
use Rattle.std.specs.Ordering.{ordering_reverse, ordering_then}
use Rattle.answer_lines.proofs.Output.{Known}
use Rattle.kohiblad_shell.specs.declared.input.Form.{Form}
use Rattle.kohiblad_shell.specs.declared.merge.Head.{Head}
use Rattle.kohiblad_shell.specs.declared.outcome.LineFault.{LineFault}
use Rattle.kohiblad_shell.specs.declared.run.Answer.{Answer}
use Rattle.kohiblad_shell.specs.declared.run.Answer.TheVariants.{Rows, Wrong, End}
use Rattle.kohiblad_shell.specs.Merges.{AreNumbered, BeginsWith, FindsAnswer, IsFaultAfter, IsTaken}
use Rattle.kohiblad_shell.specs.Merges.{NextHead, StandsAt, TakesRows, earlier, first_of, head_cmp}
use Rattle.kohiblad_shell.specs.Merges.{head_input, head_key, head_number, head_outcome, last_number}
use Rattle.kohiblad_shell.specs.Merges.{last_of, no_rows, not_sorted, outcomes_after, outcomes_of}
use Rattle.kohiblad_shell.specs.Merges.{passed, stays_sorted, unsorted, wrong}
use Rattle.kohiblad_shell.specs.Outcomes.{Answers, AnswersNext, LineRule, Outcome, gives_nothing}
use Rattle.kohiblad_shell.specs.Outcomes.{has_none, none}
use Rattle.kohiblad_shell.specs.Sorts.{key_and_line}
use Rattle.kohiblad_shell.proofs.RunLaws.{Answers-append, Answers-end}

-- ---- the order of rows

head_total : IsTotalOrder head_cmp
head_total =
    then_total (on_total head_key nat_list_cmp_total)
    (then_total (on_total head_input nat_cmp_total) (on_total head_number nat_cmp_total))

le_not_gt : (o : Ordering) → is_le o ≡ true → is_gt o ≡ false
le_not_gt Less is = refl
le_not_gt Equal is = refl
le_not_gt Greater is = absurd cc

gt_reversed : (o : Ordering) → is_le o ≡ false → is_gt (ordering_reverse o) ≡ false
gt_reversed Less is = absurd cc
gt_reversed Equal is = absurd cc
gt_reversed Greater is = refl

lt_reversed : (o : Ordering) → is_gt o ≡ false → is_lt (ordering_reverse o) ≡ false
lt_reversed Less is = refl
lt_reversed Equal is = refl
lt_reversed Greater is = absurd cc

equal_not_gt : (o : Ordering) → o ≡ Equal → is_gt o ≡ false
equal_not_gt o is = ap is_gt is

-- a row that is not after another one: the other may follow it
pub below_none : (x y : Head) → is_gt (head_cmp x y) ≡ false → is_lt (head_cmp y x) ≡ false
below_none x y is =
    ap is_lt (head_total.antisymm y x) ∙ lt_reversed (head_cmp x y) is

then_not_lt : (o p : Ordering) → is_ge o ≡ true → is_lt p ≡ false
    → is_lt (ordering_then o p) ≡ false
then_not_lt Less p first second = absurd cc
then_not_lt Equal p first second = second
then_not_lt Greater p first second = refl

-- the next row of an input is not below the last one
pub follows : (input : ℕ) (last next : Head) → last.input ≡ input
    → StandsAt input (Some last) (Some next) → is_lt (head_cmp next last) ≡ false
follows input last next at place =
    let same : nat_cmp next.input last.input ≡ Equal =
    ap₂ nat_cmp place.0 at ∙ tied_itself nat_cmp_total input in
    let later : nat_cmp next.number last.number ≡ Greater =
    above last.number next.number place.1.0 in
    then_not_lt (slice_cmp nat_cmp next.key.items last.key.items)
    (ordering_then (nat_cmp next.input last.input) (nat_cmp next.number last.number)) place.1.1
    (ap₂ (λ (o p : Ordering). is_lt (ordering_then o p)) same later)
  where
    above : (m n : ℕ) → m < n → nat_cmp n m ≡ Greater
    above m n lt = grind (arith, nat_tests)

-- ---- the first one of the rows that are there

-- a row is not after another one, if that is there
abbrev pub NotAfter : Head → Option Head → Type 0
NotAfter head None = Unit {0}
NotAfter head (Some other) = is_gt (head_cmp head other) ≡ false

split_earlier : (h f o : Head) (t : Bool) → is_le (head_cmp f o) ≡ t
    → NotAfter h (cond t (Some f) (Some o)) → NotAfter h (Some f) × NotAfter h (Some o)
split_earlier h f o true is not =
    (not, upto head_total h f o not (le_not_gt (head_cmp f o) is))
split_earlier h f o false is not =
    let back : is_gt (head_cmp o f) ≡ false =
    ap is_gt (head_total.antisymm o f) ∙ gt_reversed (head_cmp f o) is in
    (upto head_total h o f not back, not)

earlier_both : (h : Head) (acc x : Option Head) → NotAfter h (earlier acc x)
    → NotAfter h acc × NotAfter h x
earlier_both h None x not = (tt, not)
earlier_both h (Some f) None not = (not, tt)
earlier_both h (Some f) (Some o) not = split_earlier h f o (is_le (head_cmp f o)) refl not

picked : (h f o : Head) (t : Bool) → cond t (Some f) (Some o) ≡ Some h
    → (Some f ≡ Some h) ⊎ (Some o ≡ Some h)
picked h f o true is = inl is
picked h f o false is = inr is

earlier_is : (h : Head) (acc x : Option Head) → earlier acc x ≡ Some h
    → (acc ≡ Some h) ⊎ (x ≡ Some h)
earlier_is h None x is = inr is
earlier_is h (Some f) None is = inl is
earlier_is h (Some f) (Some o) is = picked h f o (is_le (head_cmp f o)) is

-- the row stands among these
abbrev pub IsAmong : List (Option Head) → Head → Type 0
IsAmong heads h = (k : ℕ) × ((k < length heads) × (get_or heads k None ≡ Some h))

among_more : (x : Option Head) (heads : List (Option Head)) (h : Head) → IsAmong heads h
    → IsAmong (x ∷ heads) h
among_more x heads h (k, (low, is)) = (suc k, (omega (arith, low), is))

pub record Least (acc : Option Head) (heads : List (Option Head)) (h : Head) : Type 0 where
  pub found : (acc ≡ Some h) ⊎ IsAmong heads h
  pub not_acc : NotAfter h acc
  pub not_others : (j : ℕ) → j < length heads → NotAfter h (get_or heads j None)

pub least : (acc : Option Head) (heads : List (Option Head)) (h : Head)
    → fold earlier acc heads ≡ Some h → Least acc heads h
least acc [] h is = record {
  found = inl is;
  not_acc = subst (NotAfter h) (sym is)
      (equal_not_gt (head_cmp h h) (tied_itself head_total h));
  not_others = λ j low. absurd (omega (arith, low));
}
least acc (x ∷ heads) h is =
    let rec : Least (earlier acc x) heads h = least (earlier acc x) heads h is in
    let not_both = earlier_both h acc x rec.not_acc in
    record {
      found = here rec.found;
      not_acc = not_both.0;
      not_others = others not_both.1 rec.not_others;
    }
  where
    here : (earlier acc x ≡ Some h) ⊎ IsAmong heads h → (acc ≡ Some h) ⊎ IsAmong (x ∷ heads) h
    here (inl same) = first (earlier_is h acc x same)
      where
        first : (acc ≡ Some h) ⊎ (x ≡ Some h) → (acc ≡ Some h) ⊎ IsAmong (x ∷ heads) h
        first (inl one) = inl one
        first (inr other) = inr (0, (omega arith, other))
    here (inr among) = inr (among_more x heads h among)

    others : NotAfter h x → ((j : ℕ) → j < length heads → NotAfter h (get_or heads j None))
        → (j : ℕ) → j < length (x ∷ heads) → NotAfter h (get_or (x ∷ heads) j None)
    others one rest zero low = one
    others one rest (suc j) low = rest j (omega (arith, low))

earlier_none : (acc x : Option Head) → earlier acc x ≡ None → (acc ≡ None) × (x ≡ None)
earlier_none None x is = (refl, is)
earlier_none (Some f) None is = absurd cc
earlier_none (Some f) (Some o) is = both (is_le (head_cmp f o)) is
  where
    both : (t : Bool) → cond t (Some f) (Some o) ≡ None
        → (Some f ≡ None) × (Some o ≡ None)
    both true is = absurd cc
    both false is = absurd cc

pub none_left : (acc : Option Head) (heads : List (Option Head)) → fold earlier acc heads ≡ None
    → (acc ≡ None) × ((j : ℕ) → j < length heads → get_or heads j None ≡ None)
none_left acc [] is = (is, λ j low. absurd (omega (arith, low)))
none_left acc (x ∷ heads) is =
    let rec = none_left (earlier acc x) heads is in
    let two = earlier_none acc x rec.0 in (two.0, all two.1 rec.1)
  where
    all : x ≡ None → ((j : ℕ) → j < length heads → get_or heads j None ≡ None)
        → (j : ℕ) → j < length (x ∷ heads) → get_or (x ∷ heads) j None ≡ None
    all one rest zero low = one
    all one rest (suc j) low = rest j (omega (arith, low))

-- one more of them is looked at
pub first_of-more : (heads : List (Option Head)) (i : ℕ) (head : Option Head) → i < length heads
    → head ≡ get_or heads i head
    → first_of (take (i + 1) heads) ≡ earlier (first_of (take i heads)) head
first_of-more heads i head low is =
    ap first_of (take_more heads i head low ∙ ap (λ h. take i heads ++ h ∷ []) (sym is))
    ∙ fold_push earlier None (take i heads) head

-- ---- rows that are sorted

pub sorted_push : (xs : List Head) (x y : Head) → IsSorted head_cmp (xs ++ x ∷ [])
    → is_lt (head_cmp y x) ≡ false → IsSorted head_cmp ((xs ++ x ∷ []) ++ y ∷ [])
sorted_push xs x y sorted not =
    let zs = xs ++ x ∷ [] in
    let size : length zs ≡ length xs + 1 = length-append xs (x ∷ []) in
    let P : ℕ → Type 0 = λ k. (d : Head) → is_lt (head_cmp (get_or (zs ++ y ∷ []) (k + 1) d)
    (get_or (zs ++ y ∷ []) k d)) ≡ false in
    let below : (k : ℕ) → k < length xs → P k = λ k low d.
    let next : k + 1 < length zs = omega (arith, size, low) in
    let this : k < length zs = omega (arith, size, low) in
    rw (get_or-append zs (y ∷ []) d (k + 1) next, get_or-append zs (y ∷ []) d k this)
    (sorted k d (omega arith) next) in
    let here : P (length xs) = λ d.
    let this : length xs < length zs = omega (arith, size) in
    let last : get_or (zs ++ y ∷ []) (length xs + 1) d ≡ y =
    ap (λ n. get_or (zs ++ y ∷ []) n d) (sym size) ∙ get_or-append_seam zs y [] d in
    rw (last, get_or-append zs (y ∷ []) d (length xs) this, get_or-append_seam xs x [] d) not in
    λ k d zero low. below_more P (length xs) below here k
    (omega (arith, low, size, length-append zs (y ∷ []))) d

pub sorted_one : (x : Head) → IsSorted head_cmp (x ∷ [])
sorted_one x = λ k d zero low. absurd (omega (arith, low))

pub sorted_none : IsSorted head_cmp []
sorted_none = λ k d zero low. absurd (omega (arith, low))

-- ---- the rows of all inputs

abbrev pub all_rows : List (List Head) → List Head
all_rows rows = flat_map (λ some. some) rows

rows_more : (rows : List (List Head)) (i : ℕ) (h : Head) → i < length rows
    → IsPermutation (all_rows rows ++ h ∷ []) (all_rows (set rows i (get_or rows i [] ++ h ∷ [])))
rows_more [] i h low = absurd (omega (arith, low))
rows_more (r ∷ rows) zero h low =
    rw (append_assoc r (all_rows rows) (h ∷ []), append_assoc r (h ∷ []) (all_rows rows))
    (IsPermutation-append_right r (all_rows rows ++ h ∷ []) (h ∷ all_rows rows)
    (IsPermutation-to_front (all_rows rows) h))
rows_more (r ∷ rows) (suc i) h low =
    rw (append_assoc r (all_rows rows) (h ∷ []))
    (IsPermutation-append_right r (all_rows rows ++ h ∷ [])
    (all_rows (set rows i (get_or rows i [] ++ h ∷ []))) (rows_more rows i h (omega (arith, low))))

pub written_more : (rows : List (List Head)) (i : ℕ) (h : Head) (written : List Head)
    → i < length rows → IsPermutation (all_rows rows) written
    → IsPermutation (all_rows (set rows i (get_or rows i [] ++ h ∷ []))) (written ++ h ∷ [])
written_more rows i h written low are =
    IsPermutation-trans _ (all_rows rows ++ h ∷ []) _
    (IsPermutation-sym _ _ (rows_more rows i h low))
    (IsPermutation-append_left (h ∷ []) (all_rows rows) written are)

pub no_rows_at : {R : Type 0} (readers : List R) (i : ℕ) → get_or (no_rows readers) i [] ≡ []
no_rows_at [] i = refl
no_rows_at (r ∷ readers) zero = refl
no_rows_at (r ∷ readers) (suc i) = no_rows_at readers i

pub no_rows_all : {R : Type 0} (readers : List R) → all_rows (no_rows readers) ≡ []
no_rows_all [] = refl
no_rows_all (r ∷ readers) = no_rows_all readers

pub no_rows_length : {R : Type 0} (readers : List R) → length (no_rows readers) ≡ length readers
no_rows_length [] = refl
no_rows_length (r ∷ readers) = ap suc (no_rows_length readers)

-- ---- the rows of an input

-- the number of the last of these rows, or the one before them if there is none
abbrev pub end_number : ℕ → List Head → ℕ
end_number before [] = before
end_number before (row ∷ rows) = end_number row.number rows

pub end_more : (before : ℕ) (rows : List Head) (h : Head)
    → end_number before (rows ++ h ∷ []) ≡ h.number
end_more before [] h = refl
end_more before (row ∷ rows) h = end_more row.number rows h

numbered_more : (input before : ℕ) (rows : List Head) (next : Head)
    → AreNumbered input before rows → next.input ≡ input
    → end_number before rows < next.number → AreNumbered input before (rows ++ next ∷ [])
numbered_more input before [] next are at above = (at, (above, tt))
numbered_more input before (row ∷ rows) next are at above =
    (are.0, (are.1.0, numbered_more input row.number rows next are.1.1 at above))

outcomes-append : (before : ℕ) (rows : List Head) (next : Head)
    → outcomes_of before (rows ++ next ∷ []) ≡ outcomes_of before rows
    ++ outcomes_after (end_number before rows) next.number (head_outcome next)
outcomes-append before [] next =
    append-nil (outcomes_after before next.number (head_outcome next))
outcomes-append before (row ∷ rows) next =
    let first = outcomes_after before row.number (head_outcome row) in
    ap (λ os. first ++ os) (outcomes-append row.number rows next)
    ∙ sym (append_assoc first (outcomes_of row.number rows)
    (outcomes_after (end_number row.number rows) next.number (head_outcome next)))

pub last_more : (rows : List Head) (h : Head) → last_of (rows ++ h ∷ []) ≡ Some h
last_more [] h = refl
last_more (row ∷ []) h = refl
last_more (row ∷ (next ∷ rows)) h = last_more (next ∷ rows) h

module _ (rule : LineRule) (form : Form) where
  outcomes_more : (bytes mid rest : List ℕ) (rows : List Head) (next : Head)
      → Answers rule form bytes (outcomes_of 0 rows) mid
      → Answers rule form mid
      (outcomes_after (end_number 0 rows) next.number (head_outcome next)) rest
      → Answers rule form bytes (outcomes_of 0 (rows ++ next ∷ [])) rest
  outcomes_more bytes mid rest rows next so_far then =
      rw (outcomes-append 0 rows next) (Answers-append so_far then)

  -- one more row of an input was taken, or none is left
  pub taken_next : (input : ℕ) (old mid new : Known) (rows : List Head) (next : Option Head)
      (last : Option Head) → TakesRows rule form input old mid rows
      → NextHead rule form last mid new next → StandsAt input last next
      → last_number last ≡ end_number 0 rows
      → IsTaken rule form input old new rows next
  taken_next input None mid new rows None last so_far then place number = tt
  taken_next input None mid new rows (Some head) last so_far then place number = tt
  taken_next input (Some bytes) None new rows next last so_far then place number = absurd so_far
  taken_next input (Some bytes) (Some more) None rows next last so_far then place number =
      absurd then
  taken_next input (Some bytes) (Some more) (Some rest) rows None last so_far then place number =
      record { rest = more; numbered = so_far.0; answered = so_far.1; whole = λ _. then }
  taken_next input (Some bytes) (Some more) (Some rest) rows (Some head) last so_far then place
      number = (
        numbered_more input 0 rows head so_far.0 place.0
            (subst (λ n. n < head.number) number place.1.0),
        outcomes_more bytes more rest rows head so_far.1
            (subst (λ n. Answers rule form more
            (outcomes_after n head.number (head_outcome head)) rest) number then),
      )

  -- what was taken of an input is at its beginning
  pub begins_of : (input : ℕ) (old new : Known) (rows : List Head) (next : Option Head)
      → IsTaken rule form input old new rows next
      → IfSome old (λ bytes. BeginsWith rule form input bytes (rows ++ option_to_list next) false)
  begins_of input None new rows next taken = tt
  begins_of input (Some bytes) new rows None taken = rw append-nil (record {
    rest = taken.rest;
    numbered = taken.numbered;
    answered = taken.answered;
    whole = λ is. absurd cc;
  })
  begins_of input (Some bytes) None rows (Some head) taken = absurd taken
  begins_of input (Some bytes) (Some rest) rows (Some head) taken = record {
    rest = rest;
    numbered = taken.0;
    answered = taken.1;
    whole = λ is. absurd cc;
  }

  -- the same where the next row has become one of the rows
  pub begins_written : (input : ℕ) (old new : Known) (rows : List Head) (head : Head)
      → IsTaken rule form input old new rows (Some head)
      → IfSome old (λ bytes.
      BeginsWith rule form input bytes ((rows ++ head ∷ []) ++ option_to_list None) false)
  begins_written input old new rows head taken =
      rw append-nil (begins_of input old new rows (Some head) taken)

  -- nothing is left of it
  pub begins_whole : (input : ℕ) (old new : Known) (rows : List Head)
      → IsTaken rule form input old new rows None
      → IfSome old (λ bytes. BeginsWith rule form input bytes (rows ++ option_to_list None) true)
  begins_whole input None new rows taken = tt
  begins_whole input (Some bytes) new rows taken = rw append-nil taken

  -- a fault after rows that were taken
  fault_after : (bytes mid : List ℕ) (rows : List Head) (last : Option Head) (number : ℕ)
      (fault : LineFault) → Answers rule form bytes (outcomes_of 0 rows) mid
      → IsFaultAfter rule form mid [] last number fault
      → IsFaultAfter rule form bytes (outcomes_of 0 rows) last number fault
  fault_after bytes mid rows last number fault so_far (wrong rest is) =
      wrong rest (Answers-append so_far is)
  fault_after bytes mid rows last number fault so_far (unsorted head rest is not answer) =
      unsorted head rest is not (Answers-append so_far answer)

  pub fault_known : (input : ℕ) (old mid : Known) (rows : List Head) (last : Option Head)
      (number : ℕ) (fault : LineFault) → TakesRows rule form input old mid rows
      → IfSome mid (λ bytes. IsFaultAfter rule form bytes [] last number fault)
      → IfSome old (λ bytes. IsFaultAfter rule form bytes (outcomes_of 0 rows) last number fault)
  fault_known input None mid rows last number fault so_far is = tt
  fault_known input (Some bytes) None rows last number fault so_far is = absurd so_far
  fault_known input (Some bytes) (Some more) rows last number fault so_far is =
      fault_after bytes more rows last number fault so_far.1 is

  -- ---- rows that give nothing

  -- so many were taken
  abbrev pub HasPassed : Known → Known → ℕ → Type 0
  HasPassed None new count = Unit {0}
  HasPassed (Some bytes) None count = ⊥
  HasPassed (Some bytes) (Some rest) count = Answers rule form bytes (passed count) rest

  pub passes_none : (known : Known) → HasPassed known known 0
  passes_none None = tt
  passes_none (Some bytes) = none

  passed_more : (count : ℕ) → passed (count + 1) ≡ passed count ++ Ok [] ∷ []
  passed_more count = sym (replicate_more {X = Outcome} count (Ok []))

  nothing_given : (lines : Vec ℕ Global) → gives_nothing (Rows lines) ≡ true → lines.items ≡ []
  nothing_given lines is = of_list lines.items is
    where
      of_list : (xs : List ℕ) → has_none xs ≡ true → xs ≡ []
      of_list [] is = refl
      of_list (x ∷ xs) is = absurd cc

  pub passes_more : (old mid new : Known) (count : ℕ) (answer : Answer) → HasPassed old mid count
      → AnswersNext rule form mid new answer → gives_nothing answer ≡ true
      → HasPassed old new (count + 1)
  passes_more None mid new count answer so_far next is = tt
  passes_more (Some bytes) None new count answer so_far next is = absurd so_far
  passes_more (Some bytes) (Some mid) None count answer so_far next is = absurd next
  passes_more (Some bytes) (Some mid) (Some rest) count (Rows lines) so_far next is =
      let row : Answers rule form mid (Ok [] ∷ []) rest = rw (nothing_given lines is) at next in
      rw (passed_more count) (Answers-append so_far row)
  passes_more (Some bytes) (Some mid) (Some rest) count (Wrong fault) so_far next is = absurd cc
  passes_more (Some bytes) (Some mid) (Some rest) count End so_far next is = absurd cc

  -- a row after them gives something, or there is none
  pub finds : (old mid new : Known) (before count number : ℕ) (answer : Answer)
      → HasPassed old mid count → AnswersNext rule form mid new answer
      → number ≡ suc before + count → FindsAnswer rule form before old new number answer
  finds None mid new before count number answer so_far next is = tt
  finds (Some bytes) None new before count number answer so_far next is = absurd so_far
  finds (Some bytes) (Some mid) None before count number answer so_far next is = absurd next
  finds (Some bytes) (Some mid) (Some rest) before count number (Rows lines) so_far next is =
      let size : number - suc before ≡ count = omega (arith, is) in
      rw size (Answers-append so_far next)
  finds (Some bytes) (Some mid) (Some rest) before count number (Wrong fault) so_far next is =
      let size : number - suc before ≡ count = omega (arith, is) in
      rw size (Answers-append so_far next)
  finds (Some bytes) (Some mid) (Some rest) before count number End so_far next is =
      record {
        count = count;
        answered = Answers-end so_far next;
      }

  -- ---- the next row

  pub next_row : (last : Option Head) (old new : Known) (lines : Vec ℕ Global) (head : Head)
      (number : ℕ) → FindsAnswer rule form (last_number last) old new number (Rows lines)
      → lines.items ≡ key_and_line head.key.items head.line.items → head.number ≡ number
      → NextHead rule form last old new (Some head)
  next_row last None new lines head number found is at = tt
  next_row last (Some bytes) None lines head number found is at = absurd found
  next_row last (Some bytes) (Some rest) lines head number found is at = rw (at, ← is) found

  pub next_none : (last : Option Head) (old new : Known) (number : ℕ)
      → FindsAnswer rule form (last_number last) old new number End
      → NextHead rule form last old new None
  next_none last None new number found = tt
  next_none last (Some bytes) None number found = absurd found
  next_none last (Some bytes) (Some rest) number found = found

  pub next_wrong : (last : Option Head) (old new : Known) (number : ℕ) (fault : LineFault)
      → FindsAnswer rule form (last_number last) old new number (Wrong fault)
      → IfSome old (λ bytes. IsFaultAfter rule form bytes [] last number fault)
  next_wrong last None new number fault found = tt
  next_wrong last (Some bytes) None number fault found = absurd found
  next_wrong last (Some bytes) (Some rest) number fault found = wrong rest found

  pub next_unsorted : (last : Option Head) (old new : Known) (lines : Vec ℕ Global) (head : Head)
      (number : ℕ) → FindsAnswer rule form (last_number last) old new number (Rows lines)
      → lines.items ≡ key_and_line head.key.items head.line.items
      → stays_sorted last head ≡ false
      → IfSome old (λ bytes. IsFaultAfter rule form bytes [] last number not_sorted)
  next_unsorted last None new lines head number found is not = tt
  next_unsorted last (Some bytes) None lines head number found is not = absurd found
  next_unsorted last (Some bytes) (Some rest) lines head number found is not =
      unsorted head rest refl not (rw (← is) found)
