-- The progress of a merge.
use Rattle.std.proofs.Common.{◌≡◌, ◌≢◌, ◌⊎◌, inl, inr, ℕ, ◌+◌, ◌<◌, ◌≤◌, true, false, List, []}
use Rattle.std.proofs.Common.{◌∷◌, ◌++◌, length, set, get_or, refl, sym, ap, ◌∙◌, subst, append-nil}
use Rattle.std.proofs.Common.{Option, None, Some, IfSome, flat_map, option_to_list, IsPermutation}
use Rattle.std.proofs.Common.{IsSorted, arith, below_more, get_or-set_other, get_or-set_same}
use Rattle.std.proofs.Common.{length-append, length-set, Result, Ok, Err, IfErr, IfOk, is_err}
use Rattle.std.proofs.Common.{is_ok, if◌then◌else◌}
use Rattle.std.proofs.lemmas.Result.{IfErr-weaker, IfOk-weaker}
use Rattle.std.proofs.Math.ListN.{get_or-append}
use Rattle.std.proofs.Math.Seq.{get_or-append_seam}
use Rattle.std.proofs.lemmas.Bool.{cases_eq}
use Rattle.std.proofs.lemmas.List.{get_or_default}
use Rattle.std.proofs.lemmas.List.Concat.{flat_map-append}
use Rattle.std.proofs.lemmas.List.Sorted.{IsPermutation-refl}
use Rattle.std.proofs.KnownBytes.{Appends-kept}
use Rattle.std.specs.Io.KnownBytes.{Appends, Keeps}
use Rattle.answer_lines.specs.Output.{AppendsPrefix}
use Rattle.answer_lines.proofs.Output.{Known, appends_both, appends_nothing, prefix_after_all}
use Rattle.answer_lines.proofs.Output.{prefix_of_all}
use Rattle.kohiblad_shell.specs.declared.halt.Halt.{Halt}
use Rattle.kohiblad_shell.specs.declared.input.Form.{Form}
use Rattle.kohiblad_shell.specs.declared.merge.Head.{Head}
use Rattle.kohiblad_shell.specs.declared.merge.MergeEnd.{MergeEnd}
use Rattle.kohiblad_shell.specs.declared.merge.MergeEnd.TheVariants.{Halted, Faulty}
use Rattle.kohiblad_shell.specs.Merges.{BeginsMerge, BeginsWith, IsFaultAfter, IsFaultIn, IsFaultOf}
use Rattle.kohiblad_shell.specs.Merges.{IsTaken, IsWholeMerge, MayFollow, Merges, NextHead}
use Rattle.kohiblad_shell.specs.Merges.{StandsAt, StartsMerge, TakesRows, first_of, head_cmp}
use Rattle.kohiblad_shell.specs.Merges.{head_line, no_rows}
use Rattle.kohiblad_shell.specs.Outcomes.{LineRule, none}
use Rattle.kohiblad_shell.proofs.MergeLaws.{IsAmong, Least, NotAfter, all_rows, begins_of}
use Rattle.kohiblad_shell.proofs.MergeLaws.{begins_whole, begins_written, below_none, end_more}
use Rattle.kohiblad_shell.proofs.MergeLaws.{end_number, fault_known, follows, last_more, least, no_rows_all, no_rows_at}
use Rattle.kohiblad_shell.proofs.MergeLaws.{no_rows_length, none_left, sorted_none, sorted_one}
use Rattle.kohiblad_shell.proofs.MergeLaws.{sorted_push, taken_next, written_more}

-- a claim of each index, by one of them and the others
by_index : (P : ℕ → Type 0) (i : ℕ) → P i → ((j : ℕ) → j ≢ i → P j) → (j : ℕ) → P j
by_index P i one others j = pick (cases_eq j i)
  where
    pick : (j ≡ i) ⊎ (j ≡ i → ⊥) → P j
    pick (inl same) = subst P (sym same) one
    pick (inr other) = others j other

-- a push that did not fail
pub pushed_is : {T E X : Type 0} (r : Result T E) (zs xs ys : List X) → is_err r ≡ false
    → zs ≡ (if is_ok r then xs else ys) → zs ≡ xs
pushed_is (Ok u) zs xs ys not is = is
pushed_is (Err e) zs xs ys not is = absurd cc

weaker : (known : Known) (P Q : List ℕ → Type 0) → ((bytes : List ℕ) → P bytes → Q bytes)
    → IfSome known P → IfSome known Q
weaker None P Q step is = tt
weaker (Some bytes) P Q step is = step bytes is

-- the prefix stays
prefix_kept : (old new last : Known) (bytes : List ℕ) → AppendsPrefix old new bytes
    → Keeps new last → AppendsPrefix old last bytes
prefix_kept old new last bytes appends kept = record {
  written = appends.written;
  unwritten = appends.unwritten;
  parts = appends.parts;
  appends = Appends-kept old new last appends.written appends.appends kept;
}

-- the next row of an input is the one after these, and may be written next
abbrev pub IsPlaced : ℕ → List Head → List Head → Option Head → Type 0
IsPlaced input rows written None = Unit {0}
IsPlaced input rows written (Some head) = (head.input ≡ input)
    × ((end_number 0 rows < head.number) × IsSorted head_cmp (written ++ head ∷ []))

placed_may_follow : (input : ℕ) (rows written : List Head) (next : Option Head)
    → IsPlaced input rows written next → MayFollow written next
placed_may_follow input rows written None placed = tt
placed_may_follow input rows written (Some head) placed = placed.1.1

-- after a row that is not after it, the next row of another input still may be written
placed_others : (input : ℕ) (rows written : List Head) (h : Head) (next : Option Head)
    → IsSorted head_cmp (written ++ h ∷ []) → NotAfter h next → IsPlaced input rows written next
    → IsPlaced input rows (written ++ h ∷ []) next
placed_others input rows written h None sorted not placed = tt
placed_others input rows written h (Some head) sorted not placed =
    (placed.0, (placed.1.0, sorted_push written h head sorted (below_none h head not)))

placed_next : (input : ℕ) (rows written : List Head) (h : Head) (next : Option Head)
    → IsPlaced input rows written (Some h) → StandsAt input (Some h) next
    → IsPlaced input (rows ++ h ∷ []) (written ++ h ∷ []) next
placed_next input rows written h None placed at = tt
placed_next input rows written h (Some head) placed at = (
  at.0,
  (
    omega (arith, at.1.0, end_more 0 rows h),
    sorted_push written h head placed.1.1 (follows input h head placed.0 at),
  ),
)

module _ {R : Type 0} (remaining : R → Known) (rule : LineRule) (form : Form) (olds : List R) where
  -- The rows that were written, and those that were taken besides.
  pub record Going (news : List R) (heads : List (Option Head)) (old_output new_output : Known)
      (count : ℕ) : Type 0 where
    pub rows : List (List Head)
    pub written : List Head
    pub rows_count : length rows ≡ length olds
    pub heads_count : length heads ≡ length olds
    pub news_count : length news ≡ length olds
    pub taken : (i : ℕ) (r : R) → i < length olds → IsTaken rule form i
        (remaining (get_or olds i r)) (remaining (get_or news i r)) (get_or rows i [])
        (get_or heads i None)
    pub place : (i : ℕ) → i < length olds
        → IsPlaced i (get_or rows i []) written (get_or heads i None)
    pub permutation : IsPermutation (all_rows rows) written
    pub sorted : IsSorted head_cmp written
    pub output : Appends old_output new_output (flat_map head_line written)
    pub counted : count ≡ length written

  module _ (news : List R) (heads : List (Option Head)) (old new : Known) (count : ℕ)
      (g : Going news heads old new count) where
    -- a run that ends early, with nothing more written
    pub merge_stops : (halt : Halt) (last : Known) → Keeps new last
        → BeginsMerge remaining rule form olds old last (Halted halt)
    merge_stops halt last kept = record {
      rows = g.rows;
      heads = heads;
      written = g.written;
      merges = record {
        count = g.rows_count;
        begins = λ i r low. begins_of rule form i (remaining (get_or olds i r))
            (remaining (get_or news i r)) (get_or g.rows i []) (get_or heads i None)
            (g.taken i r low);
        follow = λ i low. placed_may_follow i (get_or g.rows i []) g.written
            (get_or heads i None) (g.place i low);
        none = λ is. absurd cc;
        permutation = g.permutation;
        sorted = g.sorted;
      };
      output = prefix_of_all
          (Appends-kept old new last (flat_map head_line g.written) g.output kept);
      at = tt;
    }

    -- no row is left
    pub merge_ends : first_of heads ≡ None → IsWholeMerge remaining rule form olds old new count
    merge_ends is = record {
      rows = g.rows;
      heads = heads;
      written = g.written;
      merges = record {
        count = g.rows_count;
        begins = λ i r low. whole i r low (none_at i low);
        follow = λ i low. rw (none_at i low) tt;
        none = λ all i low. none_at i low;
        permutation = g.permutation;
        sorted = g.sorted;
      };
      output = g.output;
      counted = g.counted;
    }
      where
        none_at : (i : ℕ) → i < length olds → get_or heads i None ≡ None
        none_at i low = (none_left None heads is).1 i (omega (arith, low, g.heads_count))

        whole : (i : ℕ) (r : R) → i < length olds → get_or heads i None ≡ None
            → IfSome (remaining (get_or olds i r)) (λ bytes. BeginsWith rule form i bytes
            (get_or g.rows i [] ++ option_to_list (get_or heads i None)) true)
        whole i r low none_here =
            rw none_here (begins_whole rule form i (remaining (get_or olds i r))
            (remaining (get_or news i r)) (get_or g.rows i []) (rw none_here at (g.taken i r low)))

    module _ (h : Head) (first : first_of heads ≡ Some h) where
      is_least : Least None heads h
      is_least = least None heads h first

      where_found : (None ≡ Some h) ⊎ IsAmong heads h → IsAmong heads h
      where_found (inl is) = absurd cc
      where_found (inr among) = among

      among : IsAmong heads h
      among = where_found is_least.found

      found_placed : IsPlaced among.0 (get_or g.rows among.0 []) g.written (Some h)
      found_placed =
          rw among.1.1 at (g.place among.0 (omega (arith, among.1.0, g.heads_count)))

      -- the row stands where its input does
      input_is : among.0 ≡ h.input
      input_is = sym found_placed.0

      pub input_low : h.input < length olds
      input_low = omega (arith, input_is, among.1.0, g.heads_count)

      head_at : get_or heads h.input None ≡ Some h
      head_at = subst (λ k. get_or heads k None ≡ Some h) input_is among.1.1

      placed_at : IsPlaced h.input (get_or g.rows h.input []) g.written (Some h)
      placed_at = rw head_at at (g.place h.input input_low)

      taken_at : (r : R) → TakesRows rule form h.input (remaining (get_or olds h.input r))
          (remaining (get_or news h.input r)) (get_or g.rows h.input [] ++ h ∷ [])
      taken_at r = rw head_at at (g.taken h.input r input_low)

      abbrev after : List Head
      after = get_or g.rows h.input [] ++ h ∷ []

      abbrev rows_after : List (List Head)
      rows_after = set g.rows h.input after

      abbrev written_after : List Head
      written_after = g.written ++ h ∷ []

      low_rows : h.input < length g.rows
      low_rows = omega (arith, input_low, g.rows_count)

      low_heads : h.input < length heads
      low_heads = omega (arith, input_low, g.heads_count)

      low_news : h.input < length news
      low_news = omega (arith, input_low, g.news_count)

      rows_here : get_or rows_after h.input [] ≡ after
      rows_here = get_or-set_same g.rows h.input after [] low_rows

      rows_there : (j : ℕ) → j ≢ h.input → get_or rows_after j [] ≡ get_or g.rows j []
      rows_there j other = get_or-set_other g.rows h.input j after [] other

      heads_here : (next : Option Head) → get_or (set heads h.input next) h.input None ≡ next
      heads_here next = get_or-set_same heads h.input next None low_heads

      heads_there : (next : Option Head) (j : ℕ) → j ≢ h.input
          → get_or (set heads h.input next) j None ≡ get_or heads j None
      heads_there next j other = get_or-set_other heads h.input j next None other

      place_there : (j : ℕ) → j < length olds → j ≢ h.input
          → IsPlaced j (get_or g.rows j []) written_after (get_or heads j None)
      place_there j low other =
          placed_others j (get_or g.rows j []) g.written h (get_or heads j None)
          placed_at.1.1 (is_least.not_others j (omega (arith, low, g.heads_count)))
          (g.place j low)

      lines_after : flat_map head_line written_after
          ≡ flat_map head_line g.written ++ head_line h
      lines_after =
          flat_map-append head_line g.written (h ∷ [])
          ∙ ap (λ b. flat_map head_line g.written ++ b) (append-nil (head_line h))

      -- the row is written, and no other one of its input was taken
      stepped : Merges remaining rule form olds false rows_after (set heads h.input None)
          written_after
      stepped = record {
        count = length-set g.rows h.input after ∙ g.rows_count;
        begins = by_index (λ j. (r : R) → j < length olds → Begins j r) h.input begins_here
            begins_there;
        follow = by_index (λ j. j < length olds
            → MayFollow written_after (get_or (set heads h.input None) j None)) h.input
            (λ low. rw (heads_here None) tt)
            (λ j other low. rw (heads_there None j other) (placed_may_follow j
            (get_or g.rows j []) written_after (get_or heads j None) (place_there j low other)));
        none = λ is. absurd cc;
        permutation = written_more g.rows h.input h g.written low_rows g.permutation;
        sorted = placed_at.1.1;
      }
        where
          Begins : ℕ → R → Type 0
          Begins j r = IfSome (remaining (get_or olds j r)) (λ bytes. BeginsWith rule form j bytes
              (get_or rows_after j [] ++ option_to_list (get_or (set heads h.input None) j None))
              false)

          begins_here : (r : R) → h.input < length olds → Begins h.input r
          begins_here r low =
              rw (rows_here, heads_here None) (begins_written rule form h.input
              (remaining (get_or olds h.input r)) (remaining (get_or news h.input r))
              (get_or g.rows h.input []) h (taken_at r))

          begins_there : (j : ℕ) → j ≢ h.input → (r : R) → j < length olds → Begins j r
          begins_there j other r low =
              rw (rows_there j other, heads_there None j other) (begins_of rule form j
              (remaining (get_or olds j r)) (remaining (get_or news j r)) (get_or g.rows j [])
              (get_or heads j None) (g.taken j r low))

      -- only a prefix of the row was written
      pub merge_breaks : (halt : Halt) (last : Known) → AppendsPrefix new last (head_line h)
          → BeginsMerge remaining rule form olds old last (Halted halt)
      merge_breaks halt last appends = record {
        rows = rows_after;
        heads = set heads h.input None;
        written = written_after;
        merges = stepped;
        output = rw lines_after (prefix_after_all (flat_map head_line g.written) g.output appends);
        at = tt;
      }

      module _ (mid : Known) (appends : Appends new mid (head_line h)) (x : R)
          (read : x ≡ get_or news h.input x) where
        -- the row is written, and the merge ends there
        pub merge_faults : (end : MergeEnd)
            → IsFaultIn rule form (remaining x) h.input (Some h) end
            → BeginsMerge remaining rule form olds old mid end
        merge_faults end fault = record {
          rows = rows_after;
          heads = set heads h.input None;
          written = written_after;
          merges = stepped;
          output = rw lines_after (prefix_of_all
              (appends_both old new mid (flat_map head_line g.written) (head_line h) g.output
              appends));
          at = at_end end fault;
        }
          where
            known : (r : R) → remaining x ≡ remaining (get_or news h.input r)
            known r = ap remaining (read ∙ get_or_default news h.input x r low_news)

            at_end : (end : MergeEnd) → IsFaultIn rule form (remaining x) h.input (Some h) end
                → IsFaultOf remaining rule form olds rows_after end
            at_end (Halted halt) is = tt
            at_end (Faulty f) is = rw (is.0, rows_here) (
              input_low,
              (
                rw last_more is.1.0,
                λ r. rw last_more (fault_known rule form h.input (remaining (get_or olds h.input r))
                    (remaining (get_or news h.input r)) after (Some h) f.number f.fault
                    (taken_at r) (subst (λ k. IfSome k (λ bytes. IsFaultAfter rule form bytes []
                    (Some h) f.number f.fault)) (known r) is.1.1)),
              ),
            )

        -- the row is written, and the next one of its input was taken, or none is left
        pub merge_goes_on : (y : R) (next : Option Head)
            → NextHead rule form (Some h) (remaining x) (remaining y) next
            → StandsAt h.input (Some h) next
            → Going (set news h.input y) (set heads h.input next) old mid (count + 1)
        merge_goes_on y next after_it at = record {
          rows = rows_after;
          written = written_after;
          rows_count = length-set g.rows h.input after ∙ g.rows_count;
          heads_count = length-set heads h.input next ∙ g.heads_count;
          news_count = length-set news h.input y ∙ g.news_count;
          taken = by_index (λ j. (r : R) → j < length olds → Taken j r) h.input taken_here
              taken_there;
          place = by_index (λ j. j < length olds → IsPlaced j (get_or rows_after j [])
              written_after (get_or (set heads h.input next) j None)) h.input
              (λ low. rw (rows_here, heads_here next)
              (placed_next h.input (get_or g.rows h.input []) g.written h next placed_at at))
              (λ j other low. rw (rows_there j other, heads_there next j other)
              (place_there j low other));
          permutation = written_more g.rows h.input h g.written low_rows g.permutation;
          sorted = placed_at.1.1;
          output = rw lines_after
              (appends_both old new mid (flat_map head_line g.written) (head_line h) g.output
              appends);
          counted = omega (arith, g.counted, length-append g.written (h ∷ []));
        }
          where
            Taken : ℕ → R → Type 0
            Taken j r = IsTaken rule form j (remaining (get_or olds j r))
                (remaining (get_or (set news h.input y) j r)) (get_or rows_after j [])
                (get_or (set heads h.input next) j None)

            known : (r : R) → remaining (get_or news h.input r) ≡ remaining x
            known r = ap remaining (sym (read ∙ get_or_default news h.input x r low_news))

            taken_here : (r : R) → h.input < length olds → Taken h.input r
            taken_here r low =
                rw (rows_here, heads_here next, get_or-set_same news h.input y r low_news)
                (taken_next rule form h.input (remaining (get_or olds h.input r)) (remaining x)
                (remaining y) after next (Some h)
                (subst (λ k. TakesRows rule form h.input (remaining (get_or olds h.input r)) k
                after) (known r) (taken_at r)) after_it at
                (sym (end_more 0 (get_or g.rows h.input []) h)))

            taken_there : (j : ℕ) → j ≢ h.input → (r : R) → j < length olds → Taken j r
            taken_there j other r low =
                rw (
                  rows_there j other,
                  heads_there next j other,
                  get_or-set_other news h.input j y r other,
                ) (g.taken j r low)

  -- ---- the beginning

  -- The first rows of some inputs were taken.
  pub record Starting (news : List R) (heads : List (Option Head)) (input : ℕ) : Type 0 where
    pub heads_count : length heads ≡ input
    pub taken : (i : ℕ) → i < input → (r : R) → IsTaken rule form i
        (remaining (get_or olds i r)) (remaining (get_or news i r)) [] (get_or heads i None)
    pub place : (i : ℕ) → i < input → StandsAt i None (get_or heads i None)
    pub later : (i : ℕ) (r : R) → input ≤ i → get_or news i r ≡ get_or olds i r

  pub starts : Starting olds [] 0
  starts = record {
    heads_count = refl;
    taken = λ i low r. absurd (omega (arith, low));
    place = λ i low. absurd (omega (arith, low));
    later = λ i r low. refl;
  }

  nothing_taken : (i : ℕ) (old : Known) → TakesRows rule form i old old []
  nothing_taken i None = tt
  nothing_taken i (Some bytes) = (tt, none)

  module _ (news : List R) (heads : List (Option Head)) (i : ℕ) (s : Starting news heads i)
      (low : i < length news) (size : length news ≡ length olds) (x : R)
      (read : x ≡ get_or news i x) where
    untouched : (r : R) → x ≡ get_or olds i r
    untouched r = read ∙ get_or_default news i x r low ∙ s.later i r (omega arith)

    pub starts_more : (y : R) (next : Option Head)
        → NextHead rule form None (remaining x) (remaining y) next
        → StandsAt i None next → Starting (set news i y) (heads ++ next ∷ []) (i + 1)
    starts_more y next after_it at = record {
      heads_count = omega (arith, s.heads_count, length-append heads (next ∷ []));
      taken = below_more Taken i taken_there taken_here;
      place = below_more (λ j. StandsAt j None (get_or (heads ++ next ∷ []) j None)) i
          (λ j less. rw (heads_there j less) (s.place j less)) (rw heads_here at);
      later = λ j r more. get_or-set_other news i j y r (λ is. omega (arith, is, more))
          ∙ s.later j r (omega (arith, more));
    }
      where
        Taken : ℕ → Type 0
        Taken j = (r : R) → IsTaken rule form j (remaining (get_or olds j r))
            (remaining (get_or (set news i y) j r)) [] (get_or (heads ++ next ∷ []) j None)

        heads_there : (j : ℕ) → j < i → get_or (heads ++ next ∷ []) j None ≡ get_or heads j None
        heads_there j less =
            get_or-append heads (next ∷ []) None j (omega (arith, less, s.heads_count))

        heads_here : get_or (heads ++ next ∷ []) i None ≡ next
        heads_here =
            ap (λ n. get_or (heads ++ next ∷ []) n None) (sym s.heads_count)
            ∙ get_or-append_seam heads next [] None

        taken_there : (j : ℕ) → j < i → Taken j
        taken_there j less r =
            let other : j ≢ i = λ is. omega (arith, is, less) in
            rw (heads_there j less, get_or-set_other news i j y r other) (s.taken j less r)

        taken_here : Taken i
        taken_here r =
            rw (heads_here, get_or-set_same news i y r low, ← untouched r)
            (taken_next rule form i (remaining x) (remaining x) (remaining y) [] next None
            (nothing_taken i (remaining x)) after_it at refl)

    -- the merge ends at a first row
    pub starts_fault : (end : MergeEnd) → IsFaultIn rule form (remaining x) i None end
        → IsFaultOf remaining rule form olds (no_rows olds) end
    starts_fault (Halted halt) is = tt
    starts_fault (Faulty f) is = rw (is.0, no_rows_at olds i) (
      omega (arith, low, size),
      (is.1.0, λ r. rw (← untouched r) is.1.1),
    )

  pub started : (news : List R) (heads : List (Option Head)) (i : ℕ) → Starting news heads i
      → i ≡ length olds → StartsMerge remaining rule form olds news heads
  started news heads i s all = record {
    count = s.heads_count ∙ all;
    taken = λ j r low. s.taken j (omega (arith, low, all)) r;
    place = λ j low. s.place j (omega (arith, low, all));
  }

  first_placed : (i : ℕ) (next : Option Head) → StandsAt i None next → IsPlaced i [] [] next
  first_placed i None at = tt
  first_placed i (Some head) at = (at.0, (at.1.0, sorted_one head))

  -- nothing is written yet
  pub goes : (news : List R) (heads : List (Option Head)) (out : Known)
      → StartsMerge remaining rule form olds news heads → length news ≡ length olds
      → Going news heads out out 0
  goes news heads out s size = record {
    rows = no_rows olds;
    written = [];
    rows_count = no_rows_length olds;
    heads_count = s.count;
    news_count = size;
    taken = λ i r low. rw (no_rows_at olds i) (s.taken i r low);
    place = λ i low. rw (no_rows_at olds i)
        (first_placed i (get_or heads i None) (s.place i low));
    permutation = rw (no_rows_all olds) (IsPermutation-refl []);
    sorted = sorted_none;
    output = appends_nothing out;
    counted = refl;
  }

  -- nothing was taken, or written
  pub never_goes : (out last : Known) (end : MergeEnd) → Keeps out last
      → IsFaultOf remaining rule form olds (no_rows olds) end
      → BeginsMerge remaining rule form olds out last end
  never_goes out last end kept is = record {
    rows = no_rows olds;
    heads = [];
    written = [];
    merges = record {
      count = no_rows_length olds;
      begins = λ i r low. rw (no_rows_at olds i) (nothing i (remaining (get_or olds i r)));
      follow = λ i low. tt;
      none = λ is. absurd cc;
      permutation = rw (no_rows_all olds) (IsPermutation-refl []);
      sorted = sorted_none;
    };
    output = prefix_of_all (Appends-kept out out last [] (appends_nothing out) kept);
    at = is;
  }
    where
      nothing : (i : ℕ) (old : Known) → IfSome old (λ bytes. BeginsWith rule form i bytes [] false)
      nothing i None = tt
      nothing i (Some bytes) =
          record { rest = bytes; numbered = tt; answered = none; whole = λ is. absurd cc }

  -- ---- after the last flush

  pub merge_kept : (old new last : Known) (end : MergeEnd) → Keeps new last
      → BeginsMerge remaining rule form olds old new end
      → BeginsMerge remaining rule form olds old last end
  merge_kept old new last end kept b = record {
    rows = b.rows;
    heads = b.heads;
    written = b.written;
    merges = b.merges;
    output = prefix_kept old new last (flat_map head_line b.written) b.output kept;
    at = b.at;
  }

  pub whole_kept : (old new last : Known) (count : ℕ) → Keeps new last
      → IsWholeMerge remaining rule form olds old new count
      → IsWholeMerge remaining rule form olds old last count
  whole_kept old new last count kept w = record {
    rows = w.rows;
    heads = w.heads;
    written = w.written;
    merges = w.merges;
    output = Appends-kept old new last (flat_map head_line w.written) w.output kept;
    counted = w.counted;
  }

  -- the last flush failed, so the merge did not end whole
  pub whole_halts : (halt : Halt) (old new last : Known) (count : ℕ) → Keeps new last
      → IsWholeMerge remaining rule form olds old new count
      → BeginsMerge remaining rule form olds old last (Halted halt)
  whole_halts halt old new last count kept w = record {
    rows = w.rows;
    heads = w.heads;
    written = w.written;
    merges = record {
      count = w.merges.count;
      begins = λ i r low. weaker (remaining (get_or olds i r))
          (λ bytes. BeginsWith rule form i bytes
          (get_or w.rows i [] ++ option_to_list (get_or w.heads i None)) true)
          (λ bytes. BeginsWith rule form i bytes
          (get_or w.rows i [] ++ option_to_list (get_or w.heads i None)) false)
          (λ bytes b. record {
            rest = b.rest;
            numbered = b.numbered;
            answered = b.answered;
            whole = λ is. absurd cc;
          }) (w.merges.begins i r low);
      follow = w.merges.follow;
      none = λ is. absurd cc;
      permutation = w.merges.permutation;
      sorted = w.merges.sorted;
    };
    output = prefix_of_all
        (Appends-kept old new last (flat_map head_line w.written) w.output kept);
    at = tt;
  }

  -- the last flush failed after the merge had ended early
  pub begun_halts : (halt : Halt) (old new last : Known) (end : MergeEnd) → Keeps new last
      → BeginsMerge remaining rule form olds old new end
      → BeginsMerge remaining rule form olds old last (Halted halt)
  begun_halts halt old new last end kept b = record {
    rows = b.rows;
    heads = b.heads;
    written = b.written;
    merges = b.merges;
    output = prefix_kept old new last (flat_map head_line b.written) b.output kept;
    at = tt;
  }

  -- what is said of a merge after its last flush, which failed or did not
  pub flushed_whole : (r : Result ℕ MergeEnd) (old new last : Known) → Keeps new last
      → IfOk r (IsWholeMerge remaining rule form olds old new)
      → IfOk r (IsWholeMerge remaining rule form olds old last)
  flushed_whole r old new last kept is =
      IfOk-weaker r (IsWholeMerge remaining rule form olds old new)
      (IsWholeMerge remaining rule form olds old last)
      (λ count w. whole_kept old new last count kept w) is

  pub flushed_begins : (r : Result ℕ MergeEnd) (old new last : Known) → Keeps new last
      → IfErr r (BeginsMerge remaining rule form olds old new)
      → IfErr r (BeginsMerge remaining rule form olds old last)
  flushed_begins r old new last kept is =
      IfErr-weaker r (BeginsMerge remaining rule form olds old new)
      (BeginsMerge remaining rule form olds old last)
      (λ end b. merge_kept old new last end kept b) is

  pub flush_failed : (r : Result ℕ MergeEnd) (halt : Halt) (old new last : Known) → Keeps new last
      → IfOk r (IsWholeMerge remaining rule form olds old new)
      → IfErr r (BeginsMerge remaining rule form olds old new)
      → BeginsMerge remaining rule form olds old last (Halted halt)
  flush_failed (Ok count) halt old new last kept whole begun =
      whole_halts halt old new last count kept whole
  flush_failed (Err end) halt old new last kept whole begun =
      begun_halts halt old new last end kept begun
