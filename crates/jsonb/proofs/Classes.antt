-- Items of one class have one count, and are either all listed or all not.
use Rattle.std.proofs.Common.{◌≡◌, ℕ, List, [], ◌∷◌, ◌++◌, Bool, true, false, refl}
use Rattle.std.proofs.Common.{cond, arith, ◌∙◌}
use Rattle.std.specs.Prelude.{is_some, unwrap_or}
use Rattle.std.proofs.lemmas.List.Folds.{list_any-append}
use Rattle.std.proofs.lemmas.Cmp.{on_total, eq_by_cmp_equiv}
use Rattle.std.specs.Cmp.{IsEquivalence}
use Rattle.jsonb_value.proofs.MeaningLaws.{meaning_cmp_total}
use Rattle.jsonb.specs.declared.item.JsonbItem.{JsonbItem}
use Rattle.jsonb.specs.ItemView.{ItemView, item_view}
use Rattle.jsonb.specs.ItemMeaning.{view_meaning}
use Rattle.jsonb.specs.Tally.{Tally, same_meaning, has_equal, count_at, SetsCount, Lists, count_of}

same_meaning_equivalence : IsEquivalence same_meaning
same_meaning_equivalence = eq_by_cmp_equiv (on_total view_meaning meaning_cmp_total)

pub lookup_same : (x y : ItemView) (counts : List (JsonbItem × ℕ)) → same_meaning x y ≡ true
    → count_at counts x ≡ count_at counts y
lookup_same x y [] same = refl
lookup_same x y (e ∷ es) same =
    rw (same_meaning_equivalence.congr x y (item_view e.0) same, lookup_same x y es same)

pub equal_same : (x y : ItemView) (list : List ItemView) → same_meaning x y ≡ true
    → has_equal list x ≡ has_equal list y
equal_same x y [] same = refl
equal_same x y (e ∷ es) same =
    rw (same_meaning_equivalence.congr x y e same, equal_same x y es same)

abbrev count_in : List (JsonbItem × ℕ) → ItemView → ℕ
count_in counts x = unwrap_or (count_at counts x) 0

-- a count that was set, in terms of the builder's contents
pub shown_count_of_set : (tally : Tally) (old new : List (JsonbItem × ℕ)) (x : ItemView) (n : ℕ)
    → old ≡ tally.counts → SetsCount old new x n
    → (f : ℕ → ℕ) → n ≡ f (count_in old x) → (item : JsonbItem)
    → count_in new (item_view item)
    ≡ cond (same_meaning x (item_view item)) (f (count_of tally (item_view item)))
    (count_of tally (item_view item))
shown_count_of_set tally old new x n shows sets f is item =
    case (same_meaning x (item_view item)) refl
  where
    case : (b : Bool) → same_meaning x (item_view item) ≡ b
        → count_in new (item_view item)
        ≡ cond b (f (count_of tally (item_view item))) (count_of tally (item_view item))
    case true same = cc (sets item, same, is, lookup_same x (item_view item) old same)
    case false other = cc (sets item, other)

-- the same after an item was listed with its first count
pub lists_new : (list : List ItemView) (old new : List (JsonbItem × ℕ)) (x : ItemView) (n : ℕ)
    → Lists list old → SetsCount old new x n
    → Lists (list ++ x ∷ []) new
lists_new list old new x n lists sets item = case (same_meaning x (item_view item)) refl where
  case : (b : Bool) → same_meaning x (item_view item) ≡ b
      → is_some (count_at new (item_view item)) ≡ has_equal (list ++ x ∷ []) (item_view item)
  case true same = let back : same_meaning (item_view item) x
      ≡ true = same_meaning_equivalence.symm (item_view item) x ∙ same in
      grind (arith, list_any-append (same_meaning (item_view item)) list (x ∷ []), sets item)
  case false other = let back : same_meaning (item_view item) x
      ≡ false = same_meaning_equivalence.symm (item_view item) x ∙ other in
      grind (
        arith,
        list_any-append (same_meaning (item_view item)) list
            (x ∷ []),
        sets item,
        lists item,
      )
