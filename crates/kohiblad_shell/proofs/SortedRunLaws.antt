-- Runs that are written and merged.
use Rattle.std.proofs.Common.{◌≡◌, ◌⊎◌, inl, inr, ℕ, zero, suc, ◌+◌, ◌<◌, ◌^◌, Bool, true, false}
use Rattle.std.proofs.Common.{List, [], ◌∷◌, ◌++◌, length, take, get_or, refl, sym}
use Rattle.std.proofs.Common.{ap, ◌∙◌, subst, append-nil, Option, None, Some}
use Rattle.std.proofs.Common.{flat_map, arith, Result, Ok, Err}
use Rattle.std.proofs.lemmas.List.{take_more}
use Rattle.std.specs.Prelude.{OnErr}
use Rattle.std.specs.Io.KnownBytes.{Appends}
use Rattle.answer_lines.specs.Output.{AppendsPrefix}
use Rattle.answer_lines.proofs.Output.{Known, appends_both, prefix_after_all}
use Rattle.kohiblad_shell.specs.declared.sort.Keyed.{Keyed}
use Rattle.kohiblad_shell.specs.declared.sorted_run.RunHead.{RunHead}
use Rattle.kohiblad_shell.specs.Sorts.{keyed_bytes}
use Rattle.kohiblad_shell.specs.SortedRuns.{HaveLengths, IsFirst, IsFirstInput, is_before}
use Rattle.std.specs.Cmp.{IsStrictWeakOrder}
use Rattle.std.specs.Cmp.Lexicographic.{slice_cmp}
use Rattle.std.specs.Ordering.{is_gt, is_lt, nat_cmp, ordering_reverse}
use Rattle.std.proofs.lemmas.Cmp.{nat_list_cmp_total}
use Rattle.std.proofs.lemmas.List.Sorted.{ranks_by}
use Rattle.std.proofs.Common.{Ordering, Less, Equal, Greater, below_more}
use Rattle.std.proofs.lemmas.List.Concat.{flat_map-append}
use Rattle.kohiblad_shell.proofs.OrderLaws.{facing}
use Rattle.kohiblad_shell.proofs.SortLaws.{no_row}

pub err_after : {T E : Type 0} (r : Result T E) (old mid new : Known) (xs ys : List ℕ)
    → Appends old mid xs → OnErr r (AppendsPrefix mid new ys)
    → OnErr r (AppendsPrefix old new (xs ++ ys))
err_after (Ok x) old mid new xs ys first then = tt
err_after (Err e) old mid new xs ys first then = prefix_after_all xs first then

pub lengths-push : (xs : List Keyed) (x : Keyed) → HaveLengths xs
    → length x.key.now < 2 ^ 64 → length x.line.now < 2 ^ 64 → HaveLengths (xs ++ x ∷ [])
lengths-push [] x fit key line = (key, (line, tt))
lengths-push (y ∷ xs) x fit key line = (fit.0, (fit.1.0, lengths-push xs x fit.1.1 key line))

-- rows that are written with their keys
pub record Written (old new : Known) (rows : List Keyed) (i : ℕ) : Type 0 where
  pub output : Appends old new (flat_map keyed_bytes (take i rows))
  pub lengths : HaveLengths (take i rows)

module _ (rows : List Keyed) (i : ℕ) (low : i < length rows) where
  one_row : flat_map keyed_bytes (take i rows ++ get_or rows i no_row ∷ [])
      ≡ flat_map keyed_bytes (take i rows) ++ keyed_bytes (get_or rows i no_row)
  one_row =
      flat_map-append keyed_bytes (take i rows) (get_or rows i no_row ∷ [])
      ∙ ap (λ b. flat_map keyed_bytes (take i rows) ++ b)
      (append-nil (keyed_bytes (get_or rows i no_row)))

  -- one more row is written
  pub written_row : (old mid new : Known) → Written old mid rows i
      → Appends mid new (keyed_bytes (get_or rows i no_row))
      → length (get_or rows i no_row).key.now < 2 ^ 64
      → length (get_or rows i no_row).line.now < 2 ^ 64 → Written old new rows (i + 1)
  written_row old mid new so_far then key line = record {
    output = rw (take_more rows i no_row low, one_row)
        (appends_both old mid new (flat_map keyed_bytes (take i rows))
        (keyed_bytes (get_or rows i no_row)) so_far.output then);
    lengths = rw (take_more rows i no_row low)
        (lengths-push (take i rows) (get_or rows i no_row) so_far.lengths key line);
  }

-- ---- the first row

reversed_lt : (o : Ordering) → is_lt (ordering_reverse o) ≡ is_gt o
reversed_lt Less = refl
reversed_lt Equal = refl
reversed_lt Greater = refl

abbrev pub key_less : List ℕ → List ℕ → Bool
key_less x y = is_lt (slice_cmp nat_cmp x y)

pub key_order : IsStrictWeakOrder key_less
key_order = ranks_by nat_list_cmp_total (λ key. key)

pub gt_is : (x y : List ℕ) → is_gt (slice_cmp nat_cmp x y) ≡ key_less y x
gt_is x y =
    sym (ap is_lt (nat_list_cmp_total.antisymm y x) ∙ reversed_lt (slice_cmp nat_cmp x y))

pub before_is : (r : Bool) (x y : List ℕ) → is_before r x y ≡ facing key_less r x y
before_is true x y = gt_is x y
before_is false x y = refl

pub facing_order : (r : Bool) → IsStrictWeakOrder (facing key_less r)
facing_order false = record {
  one_way = λ x y. key_order.one_way x y;
  chain = λ x y z. key_order.chain x y z;
}
facing_order true = record {
  one_way = λ x y. key_order.one_way y x;
  chain = λ x y z p q. key_order.chain z y x q p;
}

pub no_both : (t : Bool) → t ≡ true → t ≡ false → ⊥
no_both true p q = absurd cc
no_both false p q = absurd cc

less_ge : {X : Type 0} (lt : X → X → Bool) → IsStrictWeakOrder lt → (x y z : X)
    → lt x y ≡ true → lt z y ≡ false → lt x z ≡ true
less_ge lt o x y z less ge = go (lt x z) refl
  where
    go : (t : Bool) → lt x z ≡ t → t ≡ true
    go true is = refl
    go false is = absurd (no_both (lt x y) less (o.chain x z y is ge))

before_trans : (r : Bool) (x y z : List ℕ) → is_before r x y ≡ true → is_before r z y ≡ false
    → is_before r x z ≡ true
before_trans r x y z less ge =
    before_is r x z
    ∙ less_ge (facing key_less r) (facing_order r) x y z (sym (before_is r x y) ∙ less)
    (sym (before_is r z y) ∙ ge)

before_chain : (r : Bool) (x y z : List ℕ) → is_before r x y ≡ true → is_before r y z ≡ true
    → is_before r x z ≡ true
before_chain r x y z less less' =
    before_trans r x y z less
    (before_is r z y ∙ (facing_order r).one_way y z (sym (before_is r y z) ∙ less'))

three : (j i : ℕ) → (j < i) ⊎ ((j ≡ i) ⊎ (i < j))
three zero zero = inr (inl refl)
three zero (suc i) = inl (omega arith)
three (suc j) zero = inr (inr (omega arith))
three (suc j) (suc i) = lift (three j i)
  where
    lift : (j < i) ⊎ ((j ≡ i) ⊎ (i < j)) → (suc j < suc i) ⊎ ((suc j ≡ suc i) ⊎ (suc i < suc j))
    lift (inl less) = inl (omega (arith, less))
    lift (inr (inl is)) = inr (inl (ap suc is))
    lift (inr (inr more)) = inr (inr (omega (arith, more)))

module _ (heads : List RunHead) (r : Bool) (n : ℕ) where
  -- a run without a row changes nothing
  pub first_skips : (first : Option ℕ) → IsFirstInput heads r n first
      → ((h : RunHead) → (get_or heads n h).is_there ≡ false)
      → IsFirstInput heads r (n + 1) first
  first_skips None so_far absent =
      λ j h low. below_more (λ k. (get_or heads k h).is_there ≡ false) n
      (λ k less. so_far k h less) (absent h) j low
  first_skips (Some i) s absent = record {
    low = omega (arith, s.low);
    there = s.there;
    before = s.before;
    others = λ j h more low is. below_more
        (λ k. i < k → (get_or heads k h).is_there ≡ true
        → is_before r (get_or heads k h).key.items (get_or heads i h).key.items ≡ false) n
        (λ k less more' is'. s.others k h more' less is')
        (λ more' is'. absurd (no_both (get_or heads n h).is_there is' (absent h))) j low more is;
  }

  -- a row that does not come before the first one changes nothing
  pub first_stays : (i : ℕ) → IsFirst heads r n i
      → ((h : RunHead) → is_before r (get_or heads n h).key.items (get_or heads i h).key.items
      ≡ false)
      → IsFirst heads r (n + 1) i
  first_stays i s not_before = record {
    low = omega (arith, s.low);
    there = s.there;
    before = s.before;
    others = λ j h more low is. below_more
        (λ k. i < k → (get_or heads k h).is_there ≡ true
        → is_before r (get_or heads k h).key.items (get_or heads i h).key.items ≡ false) n
        (λ k less more' is'. s.others k h more' less is') (λ more' is'. not_before h) j low more is;
  }

  -- the first row there is
  pub first_found : ((j : ℕ) (h : RunHead) → j < n → (get_or heads j h).is_there ≡ false)
      → ((h : RunHead) → (get_or heads n h).is_there ≡ true) → IsFirst heads r (n + 1) n
  first_found none there = record {
    low = omega arith;
    there = there;
    before = λ j h less is. absurd (no_both (get_or heads j h).is_there is (none j h less));
    others = λ j h more low is. absurd (omega (arith, more, low));
  }

  -- a row that comes before the first one
  pub first_moves : (i : ℕ) → IsFirst heads r n i
      → ((h : RunHead) → (get_or heads n h).is_there ≡ true)
      → ((h : RunHead) → is_before r (get_or heads n h).key.items (get_or heads i h).key.items
      ≡ true)
      → IsFirst heads r (n + 1) n
  first_moves i s there comes = record {
    low = omega arith;
    there = there;
    before = λ j h less is. go j h less is (three j i);
    others = λ j h more low is. absurd (omega (arith, more, low));
  }
    where
      key : ℕ → RunHead → List ℕ
      key j h = (get_or heads j h).key.items

      go : (j : ℕ) (h : RunHead) → j < n → (get_or heads j h).is_there ≡ true
          → (j < i) ⊎ ((j ≡ i) ⊎ (i < j))
          → is_before r (get_or heads n h).key.items (get_or heads j h).key.items ≡ true
      go j h less is (inl under) =
          before_chain r (get_or heads n h).key.items (get_or heads i h).key.items
          (get_or heads j h).key.items (comes h) (s.before j h under is)
      go j h less is (inr (inl same)) =
          subst (λ k. is_before r (get_or heads n h).key.items (get_or heads k h).key.items ≡ true)
          (sym same) (comes h)
      go j h less is (inr (inr more)) =
          before_trans r (get_or heads n h).key.items (get_or heads i h).key.items
          (get_or heads j h).key.items (comes h) (s.others j h more less is)
