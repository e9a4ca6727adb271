-- How many steps a path with wildcards takes: at most as many for each selector as the tree weighs,
-- as often as there are ways to it.
use Rattle.std.proofs.Common.{◌≡◌, ◌≤◌, ◌+◌, ◌*◌, ℕ, zero, suc, List, [], ◌∷◌, length, map, take}
use Rattle.std.proofs.Common.{drop, refl, sym, ap, ◌∙◌, arith}
use Rattle.std.specs.Prelude.{Bool, true, false, Option, None, Some, slice_get, option_to_list}
use Rattle.std.specs.Prelude.{if◌then◌else◌, nat_eq, ◌&&◌, ◌==◌}
use Rattle.std.specs.Cmp.Lexicographic.{pointwise}
use Rattle.std.specs.List.{sum_by}
use Rattle.std.proofs.lemmas.List.Sums.{sum_by-append, sum_by-cons}
use Rattle.std.proofs.Math.Nat.{add-mul, mul-add, mul_assoc, mul_left_comm}
use Rattle.std.proofs.lemmas.Nat.{mul-le}
use Rattle.jsonb_value.specs.Tree.{Tree, null, boolean, number, text, extension, array, object}
use Rattle.jsonb_value.specs.Tree.{Trees, no_trees, tree, Pairs, no_pairs, pair, count, pair_count}
use Rattle.jsonb.specs.Lookup.{find_pair}
use Rattle.jsonb_value.specs.Value.{trees_of}
use Rattle.jsonb.specs.Node.{array_of, object_of, pair_list, pairs_of, tree_list}
use Rattle.jsonb_functions.specs.declared.filter.Term.{Term}
use Rattle.jsonb_functions.specs.declared.filter.Term.TheVariants as terms
use Rattle.jsonb_functions.specs.declared.path.Step.{Step}
use Rattle.jsonb_functions.specs.declared.path.Step.TheVariants as steps
use Rattle.jsonb_functions.specs.declared.selection.Bound.{Bound}
use Rattle.jsonb_functions.specs.declared.selection.Selector.{Selector}
use Rattle.jsonb_functions.specs.declared.selection.Selector.TheVariants as selectors
use Rattle.jsonb_functions.specs.Contains.{items_or_none}
use Rattle.jsonb_functions.specs.Filter.{holds}
use Rattle.jsonb_functions.specs.Found.{child_at, item_there}
use Rattle.jsonb_functions.specs.Path.{item_place}
use Rattle.jsonb_functions.specs.Selected.{children_at, items_before, items_through, member_trees}
use Rattle.jsonb_functions.specs.Selected.{step_at, trees_at}
use Rattle.jsonb_functions.specs.SelectSteps.{asked, extent, extents, number_there, path_size}
use Rattle.jsonb_functions.specs.SelectSteps.{select_steps, selector_size, term_steps, ways}
use Rattle.jsonb_functions.specs.Weight.{pair_weights, weight, weights}
use Rattle.jsonb_functions.proofs.StepLaws.{weight_positive}

abbrev total : List Tree → ℕ
total ts = sum_by weight ts

total_cons : (t : Tree) (ts : List Tree) → total (t ∷ ts) ≡ weight t + total ts
total_cons t ts = sum_by-cons weight t ts

-- A tree weighs more than it has children, or bytes.
items_weigh : (ts : Trees) → count ts ≤ weights ts
items_weigh no_trees = omega arith
items_weigh (tree t ts) = omega (arith, weight_positive t, items_weigh ts)

members_weigh : (ps : Pairs) → pair_count ps ≤ pair_weights ps
members_weigh no_pairs = omega arith
members_weigh (pair k t ps) = omega (arith, members_weigh ps)

extent_within : (t : Tree) → suc (extent t) ≤ weight t
extent_within null = omega arith
extent_within (boolean b) = omega arith
extent_within (number x) = omega arith
extent_within (text s) = omega arith
extent_within (extension e) = omega arith
extent_within (array ts) = omega (arith, items_weigh ts)
extent_within (object ps) = omega (arith, members_weigh ps)

-- The extent of an array or object, by what a walk has left.
items_counted : (ts : List Tree) → length ts ≡ count (trees_of ts)
items_counted [] = refl
items_counted (t ∷ ts) = ap suc (items_counted ts)

pub extent_of_items : (ts : List Tree) (t : Tree) → array_of ts ≡ t → length ts ≡ extent t
extent_of_items ts t is = items_counted ts ∙ ap extent is

members_counted : (ps : List (List ℕ × Tree)) → length ps ≡ pair_count (pairs_of ps)
members_counted [] = refl
members_counted (p ∷ ps) = ap suc (members_counted ps)

pub extent_of_members : (ps : List (List ℕ × Tree)) (t : Tree) → object_of ps ≡ t
    → length ps ≡ extent t
extent_of_members ps t is = members_counted ps ∙ ap extent is

-- What the first tree on a way has.
pub first_extent : (path : List Step) (t : Tree) → extent t ≤ extents path t
first_extent [] t = omega arith
first_extent (s ∷ path) t = omega arith

-- A child weighs less by at least the others.
item_less : (ts : Trees) (m : ℕ) (u : Tree) → slice_get (tree_list ts) m ≡ Some u
    → count ts + weight u ≤ suc (weights ts)
item_less no_trees m u e = absurd (cc)
item_less (tree t ts) zero u e =
    let same : t ≡ u = cc in rw (← same) (omega (arith, items_weigh ts))
item_less (tree t ts) (suc m) u e = omega (arith, weight_positive t, item_less ts m u e)

placed_less : (place : Option (ℕ × Bool)) (ts : Trees) (u : Tree) → item_there place ts ≡ Some u
    → count ts + weight u ≤ suc (weights ts)
placed_less None ts u e = absurd (cc)
placed_less (Some (m, true)) ts u e = item_less ts m u e
placed_less (Some (m, false)) ts u e = absurd (cc)

first_or : (b : Bool) (k : List ℕ) (t u : Tree) (ps : Pairs) (later : Option Tree)
    → (if b then Some t else later) ≡ Some u
    → (later ≡ Some u → pair_count ps + weight u ≤ suc (pair_weights ps))
    → pair_count (pair k t ps) + weight u ≤ suc (pair_weights (pair k t ps))
first_or true k t u ps later e h =
    let is : t ≡ u = cc in rw (← is) (omega (arith, members_weigh ps))
first_or false k t u ps later e h = omega (arith, h e)

member_less : (accepts : List ℕ → Bool) (size : ℕ) (ps : Pairs) (u : Tree)
    → find_pair accepts size ps ≡ Some u → pair_count ps + weight u ≤ suc (pair_weights ps)
member_less accepts size no_pairs u e = absurd (cc)
member_less accepts size (pair k t ps) u e =
    first_or ((length k == size) && accepts k) k t u ps (find_pair accepts size ps) e
    (λ later. member_less accepts size ps u later)

child_less : (s : Step) (t u : Tree) → child_at s t ≡ Some u → extent t + weight u ≤ weight t
child_less (steps.Key k) (array ts) u e = absurd (cc)
child_less (steps.Index i) (array ts) u e =
    placed_less (item_place (steps.Index i) (count ts)) ts u e
child_less (steps.FromEnd i) (array ts) u e =
    placed_less (item_place (steps.FromEnd i) (count ts)) ts u e
child_less steps.End (array ts) u e = absurd (cc)
child_less (steps.Key k) (object ps) u e =
    member_less (pointwise nat_eq k.now) (length k.now) ps u e
child_less (steps.Key k) null u e = absurd (cc)
child_less (steps.Key k) (boolean b) u e = absurd (cc)
child_less (steps.Key k) (number x) u e = absurd (cc)
child_less (steps.Key k) (text s) u e = absurd (cc)
child_less (steps.Key k) (extension x) u e = absurd (cc)
child_less (steps.Index i) null u e = absurd (cc)
child_less (steps.Index i) (boolean b) u e = absurd (cc)
child_less (steps.Index i) (number x) u e = absurd (cc)
child_less (steps.Index i) (text s) u e = absurd (cc)
child_less (steps.Index i) (extension x) u e = absurd (cc)
child_less (steps.Index i) (object ps) u e = absurd (cc)
child_less (steps.FromEnd i) null u e = absurd (cc)
child_less (steps.FromEnd i) (boolean b) u e = absurd (cc)
child_less (steps.FromEnd i) (number x) u e = absurd (cc)
child_less (steps.FromEnd i) (text s) u e = absurd (cc)
child_less (steps.FromEnd i) (extension x) u e = absurd (cc)
child_less (steps.FromEnd i) (object ps) u e = absurd (cc)
child_less steps.End null u e = absurd (cc)
child_less steps.End (boolean b) u e = absurd (cc)
child_less steps.End (number x) u e = absurd (cc)
child_less steps.End (text s) u e = absurd (cc)
child_less steps.End (extension x) u e = absurd (cc)
child_less steps.End (object ps) u e = absurd (cc)

-- So what is on the way of a path weighs less than the tree.
way_within : (s : Step) (path : List Step) (t : Tree) (child : Option Tree) → child_at s t ≡ child
    → ((u : Tree) → suc (extents path u) ≤ weight u)
    → suc (extent t + number_there child (λ u. extents path u)) ≤ weight t
way_within s path t None e h = omega (arith, extent_within t)
way_within s path t (Some u) e h = omega (arith, child_less s t u e, h u)

extents_within : (path : List Step) (t : Tree) → suc (extents path t) ≤ weight t
extents_within [] t = extent_within t
extents_within (s ∷ path) t =
    way_within s path t (child_at s t) refl (λ u. extents_within path u)

-- A term takes at most as many steps as the tree weighs.
term_within : (term : Term) (t : Tree) → term_steps term t ≤ weight t
term_within (terms.Test test) t = extents_within test.path.items t
term_within (terms.Exists path) t = extents_within path.items t
term_within (terms.NotExists path) t = extents_within path.items t
term_within terms.And t = weight_positive t
term_within terms.Or t = weight_positive t
term_within terms.Open t = weight_positive t
term_within terms.OpenNot t = weight_positive t
term_within terms.Close t = weight_positive t

terms_within : (ts : List Term) (t : Tree)
    → sum_by (λ term. term_steps term t) ts ≤ length ts * weight t
terms_within [] t = omega arith
terms_within (term ∷ ts) t =
    omega (
      arith,
      term_within term t,
      terms_within ts t,
      sum_by-cons (λ x. term_steps x t) term ts,
    )

indexes_within : (indexes : List Bound) (t : Tree)
    → sum_by (λ index. suc (extent t)) indexes ≤ length indexes * weight t
indexes_within [] t = omega arith
indexes_within (index ∷ indexes) t =
    omega (
      arith,
      extent_within t,
      indexes_within indexes t,
      sum_by-cons {X = Bound} (λ x. suc (extent t)) index indexes,
    )

asked_within : (s : Selector) (t : Tree) → asked s t ≤ selector_size s * weight t
asked_within (selectors.Indexes indexes) t = indexes_within indexes.items t
asked_within (selectors.Step s) t = omega (arith, extent_within t)
asked_within selectors.AllItems t = omega (arith, extent_within t)
asked_within selectors.AllMembers t = omega (arith, extent_within t)
asked_within (selectors.Range first last) t = omega (arith, extent_within t)
asked_within (selectors.Filter condition) t = terms_within condition.terms.items t

-- The children to which a selector leads weigh no more than the tree.
listed : (ts : Trees) → total (tree_list ts) ≡ weights ts
listed no_trees = refl
listed (tree t ts) = total_cons t (tree_list ts) ∙ ap (λ n. weight t + n) (listed ts)

values_listed : (ps : Pairs) → total (map (λ p. p.1) (pair_list ps)) ≤ pair_weights ps
values_listed no_pairs = omega arith
values_listed (pair k t ps) =
    omega (arith, total_cons t (map (λ p. p.1) (pair_list ps)), values_listed ps)

total_taken : (n : ℕ) (ts : List Tree) → total (take n ts) ≤ total ts
total_taken zero ts = omega arith
total_taken (suc n) [] = omega arith
total_taken (suc n) (t ∷ ts) =
    omega (arith, total_cons t (take n ts), total_cons t ts, total_taken n ts)

total_dropped : (n : ℕ) (ts : List Tree) → total (drop n ts) ≤ total ts
total_dropped zero ts = omega arith
total_dropped (suc n) [] = omega arith
total_dropped (suc n) (t ∷ ts) = omega (arith, total_cons t ts, total_dropped n ts)

child_total : (s : Step) (t : Tree) (child : Option Tree) → child_at s t ≡ child
    → total (option_to_list child) ≤ weight t
child_total s t None e = omega arith
child_total s t (Some u) e = omega (arith, total_cons u [], child_less s t u e)

items_total : (t : Tree) → total (tree_list (items_or_none t)) ≤ weight t
items_total (array ts) = omega (arith, listed ts)
items_total null = omega arith
items_total (boolean b) = omega arith
items_total (number x) = omega arith
items_total (text s) = omega arith
items_total (extension e) = omega arith
items_total (object ps) = omega arith

members_total : (t : Tree) → total (member_trees t) ≤ weight t
members_total (object ps) = omega (arith, values_listed ps)
members_total null = omega arith
members_total (boolean b) = omega arith
members_total (number x) = omega arith
members_total (text s) = omega arith
members_total (extension e) = omega arith
members_total (array ts) = omega arith

kept_total : (b : Bool) (t : Tree) → total (if b then t ∷ [] else []) ≤ weight t
kept_total true t = omega (arith, total_cons t [])
kept_total false t = omega arith

step_total : (s : Step) (t : Tree) → total (option_to_list (child_at s t)) ≤ weight t
step_total s t = child_total s t (child_at s t) refl

at_total : (indexes : List Bound) (t : Tree)
    → total (trees_at indexes t) ≤ length indexes * weight t
at_total [] t = omega arith
at_total (index ∷ indexes) t =
    omega (
      arith,
      step_total (step_at index) t,
      at_total indexes t,
      sum_by-append weight (option_to_list (child_at (step_at index) t)) (trees_at indexes t),
    )

-- as often as there are ways to them
children_within : (s : Selector) (t : Tree) → total (children_at s t) ≤ ways s * weight t
children_within (selectors.Step s) t = omega (arith, step_total s t)
children_within selectors.AllItems t = omega (arith, items_total t)
children_within selectors.AllMembers t = omega (arith, members_total t)
children_within (selectors.Range first last) t =
    let ts = tree_list (items_or_none t) in
    let through = items_through last (length ts) in
    omega (
      arith,
      total_dropped (items_before first (length ts)) (take through ts),
      total_taken through ts,
      items_total t,
    )
children_within (selectors.Indexes indexes) t = at_total indexes.items t
children_within (selectors.Filter condition) t = omega (arith, kept_total (holds condition t) t)

sum_within : (path : List Selector) (us : List Tree)
    → ((u : Tree) → select_steps path u ≤ path_size path * weight u)
    → sum_by (λ u. select_steps path u) us ≤ path_size path * total us
sum_within path [] h = omega arith
sum_within path (u ∷ us) h =
    omega (
      arith,
      h u,
      sum_within path us h,
      total_cons u us,
      sum_by-cons (λ v. select_steps path v) u us,
      ap (λ n. path_size path * n) (total_cons u us),
      mul-add (path_size path) (weight u) (total us),
    )

pub steps_within : (path : List Selector) (t : Tree)
    → select_steps path t ≤ path_size path * weight t
steps_within [] t = omega arith
steps_within (s ∷ path) t =
    let us = children_at s t in
    let fewer : path_size path * total us ≤ path_size path * (ways s * weight t) =
    mul-le (path_size path) (total us) (path_size path) (ways s * weight t) (omega arith)
    (children_within s t) in
    let same : path_size path * (ways s * weight t) ≡ (ways s * path_size path) * weight t =
    mul_left_comm (path_size path) (ways s) (weight t)
    ∙ sym (mul_assoc (ways s) (path_size path) (weight t)) in
    omega (
      arith,
      asked_within s t,
      sum_within path us (λ u. steps_within path u),
      fewer,
      same,
      add-mul (selector_size s) (ways s * path_size path) (weight t),
    )
