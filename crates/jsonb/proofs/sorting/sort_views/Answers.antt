use Rattle.std.proofs.Common.{rules, ℕ, List, ◌≡◌, map, subst, sym}
use Rattle.std.proofs.lemmas.List.Sorted.{IsPermutation-map, All-permutation}
use Rattle.std.specs.List.Sorted.{IsPermutation, IsStable}
use Rattle.std.specs.Ordering.{on}
use Rattle.jsonb_value.specs.Meaning.{meaning_cmp}
use Rattle.jsonb.specs.ItemMeaning.{meaning_of}
use Rattle.jsonb.specs.Raw.{raw_bytes}
use Rattle.jsonb.specs.SortKey.{sort_bytes}
use Rattle.jsonb.proofs.SortLaws.{MeansItsBytes, stable_bytes, sorted_views, all_put}
use Rattle.jsonb.proofs.sorting.sort_views.Goals.{After-put_views}
use Rattle.jsonb.proofs.sorting.sort_views.Goals as goal

-- the views that were written are the sorted keys
written : (c : After-put_views)
    → (map sort_bytes c.loop-view.keys.items ≡ map raw_bytes c.args.views.now)
    × (map raw_bytes c.put_views.new.views ≡ map sort_bytes c.sort.new.self.items)
written c = all_put c.loop-view.keys.items c.sort.new.self.items _ c.args.views.now
    c.put_views.new.views _ (search rules) c.loop-view.invariant.bytes c.sort.ensures.permutation
    c.deref.ensures.value c.put_views.ensures

pub returns-clause-permutation : goal.returns-clause-permutation
returns-clause-permutation c =
    let ks = c.loop-view.keys.items in
    let sorted = c.sort.new.self.items in
    let (all, put) = written (goal.at.returns-clause-permutation c).After-put_views in
    subst (λ (bs : List (List ℕ)). IsPermutation (map raw_bytes c.args.views.now) bs) (sym put)
    (subst (λ (bs : List (List ℕ)). IsPermutation bs (map sort_bytes sorted)) all
    (IsPermutation-map sort_bytes ks sorted c.sort.ensures.permutation))

pub returns-clause-order : goal.returns-clause-order
returns-clause-order c =
    let ks = c.loop-view.keys.items in
    let sorted = c.sort.new.self.items in
    let (all, put) = written (goal.at.returns-clause-order c).After-put_views in
    sorted_views sorted c.put_views.new.views put
    (All-permutation MeansItsBytes ks sorted c.sort.ensures.permutation c.loop-view.invariant.mean)
    c.in_ok-sort.ensures.sorted

pub returns-clause-stable : goal.returns-clause-stable
returns-clause-stable c =
    let ks = c.loop-view.keys.items in
    let sorted = c.sort.new.self.items in
    let (all, put) = written (goal.at.returns-clause-stable c).After-put_views in
    subst (λ (bs : List (List ℕ)). IsStable (on meaning_of meaning_cmp)
    (map raw_bytes c.args.views.now) bs) (sym put)
    (subst (λ (bs : List (List ℕ)). IsStable (on meaning_of meaning_cmp) bs
    (map sort_bytes sorted)) all
    (stable_bytes ks sorted c.loop-view.invariant.mean c.sort.ensures.permutation
    c.sort.ensures.stable))
