-- The least and the greatest of values in a total order, and what they show of a range.
use Rattle.std.proofs.Common.{◌≡◌, ◌≢◌, Bool, true, false, not, cond, ◌&&◌, ◌||◌, List, [], ◌∷◌}
use Rattle.std.proofs.Common.{◌++◌, refl, sym, ap, ap₂, subst, ◌∙◌}
use Rattle.std.specs.Prelude.{All, Contains, Option, Some, filter, slice_index_or}
use Rattle.std.specs.Bool.{OnFalse}
use Rattle.std.specs.Cmp.{IsTotalOrder, both_ways}
use Rattle.std.specs.List.{list_all}
use Rattle.std.specs.Ordering.{is_ge, is_gt, is_le, is_lt, is_some_and, ord_max, ord_min}
use Rattle.std.specs.Ordering.{ordering_reverse, partial_ge, partial_le}
use Rattle.std.specs.declared.cmp.Ordering.{Ordering}
use Rattle.std.specs.declared.cmp.Ordering.TheVariants.{Less, Equal, Greater}
use Rattle.std.proofs.lemmas.Bool.{and_parts}
use Rattle.std.proofs.lemmas.Cmp.{tied_itself, upto}
use Rattle.std.proofs.lemmas.List.Elements.{All-contains, All-push, All-weaker}
use Rattle.std.proofs.lemmas.List.Elements.{Contains-append_left, Contains-push}
use Rattle.std.proofs.lemmas.List.Sums.{AllPass-from_list_all, list_all-from_AllPass}
use Rattle.typed_vector.specs.ZoneMap.{IsSpan, is_above, is_below, lies_within}
use Rattle.typed_vector.specs.declared.zone_map.Zone.{Zone}

at_most_is : (r : Ordering) → is_gt r ≡ false → r ≢ Greater
at_most_is Less e g = cc
at_most_is Equal e g = cc
at_most_is Greater e g = cc

at_most_test : (r : Ordering) → r ≢ Greater → is_gt r ≡ false
at_most_test Less h = refl
at_most_test Equal h = refl
at_most_test Greater h = absurd (h refl)

below_at_most : (r : Ordering) → is_lt r ≡ true → r ≢ Greater
below_at_most Less e g = cc
below_at_most Equal e g = cc
below_at_most Greater e g = cc

turned_at_most : (r : Ordering) → is_lt r ≡ false → ordering_reverse r ≢ Greater
turned_at_most Less e g = cc
turned_at_most Equal e g = cc
turned_at_most Greater e g = cc

turned_test : (r : Ordering) → is_gt (ordering_reverse r) ≡ is_lt r
turned_test Less = refl
turned_test Equal = refl
turned_test Greater = refl

at_least_test : (r : Ordering) → is_ge r ≡ not (is_lt r)
at_least_test Less = refl
at_least_test Equal = refl
at_least_test Greater = refl

up_to_test : (r : Ordering) → is_le r ≡ not (is_gt r)
up_to_test Less = refl
up_to_test Equal = refl
up_to_test Greater = refl

not_or : (x y : Bool) → not (x || y) ≡ (not x && not y)
not_or true y = refl
not_or false y = refl

both_true : (x y : Bool) → x ≡ true → y ≡ true → (x && y) ≡ true
both_true true y e f = f
both_true false y e f = e

not_turned : (x y : Bool) → (x ≡ true → y ≡ true) → not y ≡ true → not x ≡ true
not_turned true true h e = e
not_turned true false h e = h refl
not_turned false y h e = refl

-- A test that holds of the lesser of two values where it holds of the greater one holds of all
-- values exactly where it holds of the greatest.
all_as_one : {A : Type 0} (test : A → Bool) (items : List A) (one : A) (R : A → A → Type 0)
    → Contains items one → All (λ item. R item one) items
    → ((item : A) → R item one → test one ≡ true → test item ≡ true)
    → list_all test items ≡ test one
all_as_one test items one R here h lower =
    both_ways (list_all test items) (test one)
    (λ e. All-contains (λ item. test item ≡ true) items one (AllPass-from_list_all test items e)
    here)
    (λ e. list_all-from_AllPass test items
    (All-weaker (λ item. R item one) (λ item. test item ≡ true) (λ item r. lower item r e) items h))

-- No value is found of which a test shows that it is not wanted.
none_found : {A : Type 0} (test wanted : A → Bool)
    → ((item : A) → test item ≡ true → wanted item ≡ false) → (items : List A)
    → list_all test items ≡ true → filter wanted items ≡ []
none_found test wanted shows [] e = refl
none_found test wanted shows (item ∷ items) e =
    let (here, later) = and_parts _ _ e in
    rw (shows item here) (none_found test wanted shows items later)

module _ {A : Type 0} (cmp : A → A → Ordering) (o : IsTotalOrder cmp) where
  at_most_chain : (x y z : A) → cmp x y ≢ Greater → cmp y z ≢ Greater → cmp x z ≢ Greater
  at_most_chain x y z h k =
      at_most_is (cmp x z) (upto o x y z (at_most_test (cmp x y) h) (at_most_test (cmp y z) k))

  at_most_itself : (x : A) → cmp x x ≢ Greater
  at_most_itself x g = let e = tied_itself o x in cc

  not_below : (x y : A) → is_lt (cmp x y) ≡ false → cmp y x ≢ Greater
  not_below x y e g = turned_at_most (cmp x y) e (sym (o.antisymm y x) ∙ g)

  -- One more value is the least if it is below the least, and else the greatest if it is not below
  -- the greatest.
  least_case : (items : List A) (item least : A) (b : Bool) → is_lt (cmp item least) ≡ b
      → Contains items least → All (λ x. cmp least x ≢ Greater) items
      → Contains (items ++ item ∷ []) (cond b item least)
      × All (λ x. cmp (cond b item least) x ≢ Greater) (items ++ item ∷ [])
  least_case items item least true e one h = (
    Contains-push items item,
    All-push (λ x. cmp item x ≢ Greater) items item
        (All-weaker (λ x. cmp least x ≢ Greater) (λ x. cmp item x ≢ Greater)
        (λ x r. at_most_chain item least x (below_at_most (cmp item least) e) r) items h)
        (at_most_itself item),
  )
  least_case items item least false e one h = (
    Contains-append_left items (item ∷ []) least one,
    All-push (λ x. cmp least x ≢ Greater) items item h (not_below item least e),
  )

  greatest_case : (items : List A) (item greatest : A) (b : Bool) → is_lt (cmp item greatest) ≡ b
      → Contains items greatest → All (λ x. cmp x greatest ≢ Greater) items
      → Contains (items ++ item ∷ []) (cond b greatest item)
      × All (λ x. cmp x (cond b greatest item) ≢ Greater) (items ++ item ∷ [])
  greatest_case items item greatest true e one h = (
    Contains-append_left items (item ∷ []) greatest one,
    All-push (λ x. cmp x greatest ≢ Greater) items item h (below_at_most (cmp item greatest) e),
  )
  greatest_case items item greatest false e one h = (
    Contains-push items item,
    All-push (λ x. cmp x item ≢ Greater) items item
        (All-weaker (λ x. cmp x greatest ≢ Greater) (λ x. cmp x item ≢ Greater)
        (λ x r. at_most_chain x greatest item r (not_below item greatest e)) items h)
        (at_most_itself item),
  )

  pub span_added : (items : List A) (item : A) (zone new : Zone A)
      → new.least ≡ ord_min cmp zone.least item → new.greatest ≡ ord_max cmp zone.greatest item
      → IsSpan cmp items zone → IsSpan cmp (items ++ item ∷ []) new
  span_added items item zone new least_is greatest_is span =
      let least = least_case items item zone.least (is_lt (cmp item zone.least)) refl span.least
      span.above in
      let greatest = greatest_case items item zone.greatest (is_lt (cmp item zone.greatest)) refl
      span.greatest span.below in
      record {
        least = subst (Contains (items ++ item ∷ [])) (sym least_is) least.0;
        greatest = subst (Contains (items ++ item ∷ [])) (sym greatest_is) greatest.0;
        above = subst (λ one. All (λ x. cmp one x ≢ Greater) (items ++ item ∷ [])) (sym least_is)
            least.1;
        below = subst (λ one. All (λ x. cmp x one ≢ Greater) (items ++ item ∷ []))
            (sym greatest_is) greatest.1;
      }

  below_as_above : (x y : A) → is_lt (cmp x y) ≡ is_gt (cmp y x)
  below_as_above x y = sym (turned_test (cmp x y)) ∙ ap is_gt (sym (o.antisymm y x))

  -- What is at least a value above a limit is above it.
  above_case : (x y limit : A) (b : Bool) → cmp x y ≢ Greater → is_gt (cmp x limit) ≡ true
      → is_gt (cmp y limit) ≡ b → b ≡ true
  above_case x y limit true h e is = refl
  above_case x y limit false h e is =
      let no = upto o x y limit (at_most_test (cmp x y) h) is in cc

  below_case : (x y limit : A) (b : Bool) → cmp x y ≢ Greater → is_gt (cmp limit y) ≡ true
      → is_gt (cmp limit x) ≡ b → b ≡ true
  below_case x y limit true h e is = refl
  below_case x y limit false h e is =
      let no = upto o limit x y is (at_most_test (cmp x y) h) in cc

  all_below : (items : List A) (zone : Zone A) (low : A) → IsSpan cmp items zone
      → list_all (is_below cmp low) items ≡ is_lt (cmp zone.greatest low)
  all_below items zone low span =
      all_as_one (is_below cmp low) items zone.greatest (λ x y. cmp x y ≢ Greater) span.greatest
      span.below
      (λ item h e. below_as_above item low
      ∙ below_case item zone.greatest low (is_gt (cmp low item)) h
      (sym (below_as_above zone.greatest low) ∙ e) refl)

  all_above : (items : List A) (zone : Zone A) (high : A) → IsSpan cmp items zone
      → list_all (is_above cmp high) items ≡ is_gt (cmp zone.least high)
  all_above items zone high span =
      all_as_one (is_above cmp high) items zone.least (λ x y. cmp y x ≢ Greater) span.least
      span.above
      (λ item h e. above_case zone.least item high (is_gt (cmp item high)) h e refl)

  -- The limits of the zone show whether all values are below the range, or all above it.
  shown : (items : List A) (zone : Zone A) (low high : A) → IsSpan cmp items zone
      → (is_ge (cmp zone.greatest low) && is_le (cmp zone.least high))
      ≡ not (list_all (is_below cmp low) items || list_all (is_above cmp high) items)
  shown items zone low high span =
      ap₂ (λ x y. x && y)
      (at_least_test (cmp zone.greatest low) ∙ ap not (sym (all_below items zone low span)))
      (up_to_test (cmp zone.least high) ∙ ap not (sym (all_above items zone high span)))
      ∙ sym (not_or (list_all (is_below cmp low) items) (list_all (is_above cmp high) items))

  -- The same by the tests of a partial order that agrees.
  pub tested : (partial : A → A → Option Ordering)
      → ((x y : A) → partial x y ≡ Some (cmp x y)) → (items : List A) (zone : Zone A) (low high : A)
      → IsSpan cmp items zone
      → (partial_ge partial zone.greatest low && partial_le partial zone.least high)
      ≡ not (list_all (is_below cmp low) items || list_all (is_above cmp high) items)
  tested partial agrees items zone low high span =
      ap₂ (λ x y. x && y) (ap (is_some_and is_ge) (agrees zone.greatest low))
      (ap (is_some_and is_le) (agrees zone.least high))
      ∙ shown items zone low high span

  -- All values are within a range exactly if the least and the greatest are.
  item_within : (least item greatest low high : A) → cmp least item ≢ Greater
      → cmp item greatest ≢ Greater
      → (not (is_lt (cmp least low)) && not (is_gt (cmp greatest high))) ≡ true
      → lies_within cmp low high item ≡ true
  item_within least item greatest low high above below e =
      let (from, to) = and_parts (not (is_lt (cmp least low))) (not (is_gt (cmp greatest high))) e
      in
      both_true (not (is_lt (cmp item low))) (not (is_gt (cmp item high)))
      (not_turned (is_lt (cmp item low)) (is_lt (cmp least low))
      (λ b. below_as_above least low ∙ below_case least item low (is_gt (cmp low least)) above
      (sym (below_as_above item low) ∙ b) refl) from)
      (not_turned (is_gt (cmp item high)) (is_gt (cmp greatest high))
      (λ b. above_case item greatest high (is_gt (cmp greatest high)) below b refl) to)

  ends_within : (least greatest low high : A) → lies_within cmp low high least ≡ true
      → lies_within cmp low high greatest ≡ true
      → (not (is_lt (cmp least low)) && not (is_gt (cmp greatest high))) ≡ true
  ends_within least greatest low high e f =
      both_true (not (is_lt (cmp least low))) (not (is_gt (cmp greatest high)))
      ((and_parts (not (is_lt (cmp least low))) (not (is_gt (cmp least high))) e).0)
      ((and_parts (not (is_lt (cmp greatest low))) (not (is_gt (cmp greatest high))) f).1)

  all_shown : (items : List A) (zone : Zone A) (low high : A) → IsSpan cmp items zone
      → (is_ge (cmp zone.least low) && is_le (cmp zone.greatest high))
      ≡ list_all (lies_within cmp low high) items
  all_shown items zone low high span =
      let wanted : A → Type 0 = λ item. lies_within cmp low high item ≡ true in
      ap₂ (λ x y. x && y) (at_least_test (cmp zone.least low)) (up_to_test (cmp zone.greatest high))
      ∙ both_ways (not (is_lt (cmp zone.least low)) && not (is_gt (cmp zone.greatest high)))
      (list_all (lies_within cmp low high) items)
      (λ e. list_all-from_AllPass (lies_within cmp low high) items
      (λ k d low_k. item_within zone.least (slice_index_or items k d) zone.greatest low high
      (span.above k d low_k) (span.below k d low_k) e))
      (λ e. let all = AllPass-from_list_all (lies_within cmp low high) items e in
      ends_within zone.least zone.greatest low high
      (All-contains wanted items zone.least all span.least)
      (All-contains wanted items zone.greatest all span.greatest))

  pub all_tested : (partial : A → A → Option Ordering)
      → ((x y : A) → partial x y ≡ Some (cmp x y)) → (items : List A) (zone : Zone A) (low high : A)
      → IsSpan cmp items zone
      → (partial_ge partial zone.least low && partial_le partial zone.greatest high)
      ≡ list_all (lies_within cmp low high) items
  all_tested partial agrees items zone low high span =
      ap₂ (λ x y. x && y) (ap (is_some_and is_ge) (agrees zone.least low))
      (ap (is_some_and is_le) (agrees zone.greatest high))
      ∙ all_shown items zone low high span

outside_below : (x y : Bool) → x ≡ true → (not x && not y) ≡ false
outside_below true y e = refl
outside_below false y e = absurd (cc)

outside_above : (x y : Bool) → y ≡ true → (not x && not y) ≡ false
outside_above true y e = refl
outside_above false true e = refl
outside_above false false e = absurd (cc)

none_case : {A : Type 0} (cmp : A → A → Ordering) (items : List A) (low high : A) (x y : Bool)
    → list_all (is_below cmp low) items ≡ x → list_all (is_above cmp high) items ≡ y
    → OnFalse (not (x || y)) (filter (lies_within cmp low high) items ≡ [])
none_case cmp items low high true y below above =
    none_found (is_below cmp low) (lies_within cmp low high)
    (λ item e. outside_below (is_below cmp low item) (is_above cmp high item) e) items below
none_case cmp items low high false true below above =
    none_found (is_above cmp high) (lies_within cmp low high)
    (λ item e. outside_above (is_below cmp low item) (is_above cmp high item) e) items above
none_case cmp items low high false false below above = tt

-- If all values are below the range, or all above it, then none is in it.
pub none_within : {A : Type 0} (cmp : A → A → Ordering) (items : List A) (low high : A)
    → OnFalse (not (list_all (is_below cmp low) items || list_all (is_above cmp high) items))
    (filter (lies_within cmp low high) items ≡ [])
none_within cmp items low high =
    none_case cmp items low high (list_all (is_below cmp low) items)
    (list_all (is_above cmp high) items) refl refl
