-- What a search takes: no more than the product of both weights, and what a walk has left of it.
use Rattle.std.proofs.Common.{◌≡◌, ◌≤◌, ◌<◌, ◌+◌, ◌*◌, ℕ, suc, List, [], ◌∷◌, length, refl, sym}
use Rattle.std.proofs.Common.{ap, ◌∙◌, arith, subst}
use Rattle.std.specs.Prelude.{Bool, true, false, not, nat_lt, ◌&&◌, ◌||◌, ◌==◌, if◌then◌else◌}
use Rattle.std.specs.Prelude.{Option, None, Some, Result, Ok, Err}
use Rattle.std.proofs.Math.Bool.{and-false}
use Rattle.std.proofs.Math.Nat.{add-mul, mul_comm, mul-le-mul_right}
use Rattle.std.proofs.lemmas.Bool.{ltb-true}
use Rattle.std.specs.Cmp.Lexicographic.{slice_cmp}
use Rattle.std.specs.Ordering.{is_eq, is_lt, nat_cmp}
use Rattle.std.specs.declared.cmp.Ordering.{Ordering}
use Rattle.std.specs.declared.cmp.Ordering.TheVariants.{Less, Equal, Greater}
use Rattle.jsonb_value.specs.Order.{extension_data}
use Rattle.jsonb_value.specs.Tree.{Tree, null, boolean, number, text, extension, array, object}
use Rattle.jsonb_value.specs.Tree.{Trees, no_trees, tree, count, Pairs, no_pairs, pair}
use Rattle.jsonb_value.specs.Value.{trees_of}
use Rattle.jsonb.specs.declared.document.Document.{Document}
use Rattle.jsonb.specs.declared.node.Node.{Node}
use Rattle.jsonb.specs.declared.node.Node.TheVariants as nodes
use Rattle.jsonb.specs.Node.{HoldsNoScalar, IsContainer, array_of, items_of, node_tree, object_of}
use Rattle.jsonb.specs.Node.{pairs_of}
use Rattle.jsonb_functions.specs.Contains.{contained, items_or_none, some_tree}
use Rattle.jsonb_functions.specs.ContainSteps.{Work, and_on, are_many, both, compare_steps}
use Rattle.jsonb_functions.specs.ContainSteps.{contained_work, contains_work, find_work, first_work}
use Rattle.jsonb_functions.specs.ContainSteps.{from_key, is_scalar, items_work, members_work}
use Rattle.jsonb_functions.specs.ContainSteps.{passing_steps, scalar_weights}
use Rattle.jsonb_functions.specs.ContainSteps.{sort_work, steps_alone, work_until}
use Rattle.jsonb_functions.specs.ContainWalks.{array_work, found_work}
use Rattle.jsonb_functions.specs.Steps.{DoneBy, FallsShort, FoundBy, Lacks}
use Rattle.jsonb_functions.specs.Weight.{pair_weights, weight, weights}
use Rattle.jsonb_functions.specs.declared.steps.Unanswered.{Unanswered}
use Rattle.jsonb_functions.specs.declared.steps.Unanswered.TheVariants.{OutOfMemory, TooManySteps}
use Rattle.jsonb_comparable.proofs.WalkLaws.{array_items}
use Rattle.jsonb_functions.proofs.StepLaws.{one_of_both, product_parts, weight_positive}

-- ---- the product of both weights

and_on_most : (b : Bool) (w v : Work) → (and_on b w v).steps ≤ w.steps + v.steps
and_on_most true w v = omega arith
and_on_most false w v = omega arith

shared_by : (b : Bool) (n : ℕ) → (if b then n else 0) ≤ n
shared_by true n = omega arith
shared_by false n = omega arith

compared_most : (t u : Tree) → compare_steps t u ≤ weight t
compared_most (text a) (text b) =
    omega (arith, shared_by (length a == length b) (length a))
compared_most (extension x) (extension y) =
    omega (
      arith,
      shared_by (length (extension_data x) == length (extension_data y))
          (length (extension_data x)),
    )
compared_most t u = weight_positive t

until_most : (passes : Tree → Bool) (work : Tree → Work) (ts : Trees) (n : ℕ)
    → ((t : Tree) → (work t).steps ≤ weight t * n)
    → (work_until passes work ts).steps ≤ weights ts * n
until_most passes work no_trees n h = omega arith
until_most passes work (tree t ts) n h =
    let parts : (weight t + weights ts) * n ≡ weight t * n + weights ts * n =
    add-mul (weight t) (weights ts) n in
    omega (
      arith,
      parts,
      h t,
      until_most passes work ts n h,
      and_on_most (not (passes t)) (work t) (work_until passes work ts),
    )

find_by : (b : Bool) (u : Tree) (work : Tree → Work) (ts : Trees)
    → ((t : Tree) → (work t).steps ≤ weight t * weight u) → (b ≡ true → 1 ≤ weights ts)
    → (if b then steps_alone (weight u) else work_until (λ t. contained u t) work ts).steps
    ≤ weights ts * weight u
find_by true u work ts h some =
    let most : 1 * weight u ≤ weights ts * weight u = mul-le-mul_right (weight u) (some refl) in
    omega (arith, most)
find_by false u work ts h some = until_most (λ t. contained u t) work ts (weight u) h

first_of : (a b : Bool) → (a && b) ≡ true → a ≡ true
first_of true b e = refl
first_of false b e = absurd (cc)

second_of : (a b : Bool) → (a && b) ≡ true → b ≡ true
second_of true b e = e
second_of false b e = absurd (cc)

count_most : (ts : Trees) → count ts ≤ weights ts
count_most no_trees = omega arith
count_most (tree t ts) = omega (arith, weight_positive t, count_most ts)

many_there : (us ts : Trees) → are_many (count us) (count ts) ≡ true → 1 ≤ weights ts
many_there us ts e =
    omega (
      arith,
      ltb-true 16 (count ts) (second_of (nat_lt 16 (count us)) (nat_lt 16 (count ts)) e),
      count_most ts,
    )

scalar_by : (b : Bool) (t : Tree) → (if b then weight t else 0) ≤ weight t
scalar_by true t = omega arith
scalar_by false t = omega arith

scalars_most : (ts : Trees) → scalar_weights ts ≤ weights ts
scalars_most no_trees = omega arith
scalars_most (tree t ts) = omega (arith, scalar_by (is_scalar t) t, scalars_most ts)

sort_most : (b : Bool) (ts : Trees) → (sort_work b ts).steps ≤ weights ts
sort_most true ts = scalars_most ts
sort_most false ts = omega arith

-- The weight of what the first of these members has, and of those after it.
abbrev left_weight : Pairs → ℕ
left_weight no_pairs = 0
left_weight (pair j t ps) = weight t + pair_weights ps

passing_by : (b : Bool) (k j : List ℕ) (t : Tree) (ps : Pairs)
    → passing_steps k ps + left_weight (from_key k ps) ≤ pair_weights ps
    → suc (length j) + (if b then passing_steps k ps else 0)
    + left_weight (if b then from_key k ps else pair j t ps)
    ≤ suc (length j + (weight t + pair_weights ps))
passing_by true k j t ps h = omega (arith, h)
passing_by false k j t ps h = omega arith

passing_most : (k : List ℕ) (ps : Pairs)
    → passing_steps k ps + left_weight (from_key k ps) ≤ pair_weights ps
passing_most k no_pairs = omega arith
passing_most k (pair j t ps) =
    passing_by (is_lt (slice_cmp nat_cmp j k)) k j t ps (passing_most k ps)

-- What comparing the first of these members and going on takes at most.
abbrev left_most : ℕ → ℕ → Pairs → ℕ
left_most u q no_pairs = 0
left_most u q (pair j t ps) = weight t * u + (pair_weights ps + pair_weights ps * q)

first_by : (b : Bool) (w v : Work) (c : Bool) (m n : ℕ) → w.steps ≤ m → v.steps ≤ n
    → (if b then and_on c w v else steps_alone 0).steps ≤ m + n
first_by true w v c m n h g = omega (arith, h, g, and_on_most c w v)
first_by false w v c m n h g = omega arith

first_most : (k : List ℕ) (passes : Tree → Bool) (work : Tree → Work) (later : Pairs → Work)
    (u q : ℕ) (left : Pairs) → ((t : Tree) → (work t).steps ≤ weight t * u)
    → ((ps : Pairs) → (later ps).steps ≤ pair_weights ps + pair_weights ps * q)
    → (first_work k passes work later left).steps ≤ left_most u q left
first_most k passes work later u q no_pairs h g = omega arith
first_most k passes work later u q (pair j t ps) h g =
    first_by (is_eq (slice_cmp nat_cmp j k)) (work t) (later ps) (passes t) (weight t * u)
    (pair_weights ps + pair_weights ps * q) (h t) (g ps)

-- The members passed, the value compared, and the rest, within the product.
left_within : (n k u q : ℕ) (p : ℕ) (left : Pairs) → n + left_weight left ≤ p
    → n + left_most u q left ≤ p + p * suc (k + (u + q))
left_within n k u q p no_pairs h = omega (arith, h)
left_within n k u q p (pair j t ps) h =
    let value : weight t * u ≤ p * u = mul-le-mul_right u (omega (arith, h)) in
    let rest : pair_weights ps * q ≤ p * q = mul-le-mul_right q (omega (arith, h)) in
    let sum : suc (k + (u + q)) ≡ suc k + (u + q) = omega arith in
    let whole : suc (k + (u + q)) * p ≡ suc k * p + (u + q) * p =
    rw sum (add-mul (suc k) (u + q) p) in
    let parts : (u + q) * p ≡ u * p + q * p = add-mul u q p in
    omega (
      arith,
      h,
      value,
      rest,
      whole,
      parts,
      mul_comm p u,
      mul_comm p q,
      mul_comm p (suc (k + (u + q))),
    )

mutual
  contained_most : (u t : Tree) → (contained_work u t).steps ≤ weight t * weight u
  contained_most (array us) (array ts) =
      let many = are_many (count us) (count ts) in
      omega (
        arith,
        product_parts (weights ts) (weights us) (suc (weights ts)) (suc (weights us)) refl refl,
        sort_most many ts,
        items_most many us ts (many_there us ts),
      )
  contained_most (object qs) (object ps) =
      omega (
        arith,
        product_parts (pair_weights ps) (pair_weights qs) (suc (pair_weights ps))
            (suc (pair_weights qs)) refl refl,
        members_most qs ps,
      )
  contained_most u t = omega (arith, compared_most t u, one_of_both t u)

  items_most : (sorted : Bool) (us ts : Trees) → (sorted ≡ true → 1 ≤ weights ts)
      → (items_work sorted us ts).steps ≤ weights ts * weights us
  items_most sorted no_trees ts some = omega arith
  items_most sorted (tree u us) ts some =
      let parts : (weight u + weights us) * weights ts
      ≡ weight u * weights ts + weights us * weights ts =
      add-mul (weight u) (weights us) (weights ts) in
      omega (
        arith,
        parts,
        mul_comm (weights ts) (weight u + weights us),
        mul_comm (weights ts) (weight u),
        mul_comm (weights ts) (weights us),
        items_most sorted us ts some,
        find_by (sorted && is_scalar u) u (λ t. contained_work u t) ts
            (λ t. contained_most u t) (λ e. some (first_of sorted (is_scalar u) e)),
        and_on_most (some_tree (λ t. contained u t) ts)
            (find_work sorted u (λ t. contained_work u t) ts) (items_work sorted us ts),
      )

  members_most : (qs ps : Pairs)
      → (members_work qs ps).steps ≤ pair_weights ps + pair_weights ps * pair_weights qs
  members_most no_pairs ps = omega arith
  members_most (pair k u qs) ps =
      omega (
        arith,
        first_most k (λ t. contained u t) (λ t. contained_work u t) (λ left. members_work qs left)
            (weight u) (pair_weights qs) (from_key k ps) (λ t. contained_most u t)
            (λ left. members_most qs left),
        left_within (passing_steps k ps) (length k) (weight u) (pair_weights qs)
            (pair_weights ps) (from_key k ps) (passing_most k ps),
      )

item_most : (u : Tree) (ts : Trees)
    → (work_until (λ t. contained u t) (λ t. contained_work u t) ts).steps
    ≤ suc (weights ts) * weight u
item_most u ts =
    let more : weights ts * weight u ≤ suc (weights ts) * weight u =
    mul-le-mul_right (weight u) (omega arith) in
    omega (
      arith,
      more,
      until_most (λ t. contained u t) (λ t. contained_work u t) ts (weight u)
          (λ t. contained_most u t),
    )

pub work_below : (t u : Tree) → (contains_work t u).steps ≤ weight t * weight u
work_below (array ts) (array us) = contained_most (array us) (array ts)
work_below (array ts) (object qs) = contained_most (object qs) (array ts)
work_below (array ts) u = item_most u ts
work_below t u = contained_most u t

-- ---- what a walk has left

-- What was done and what is left are the whole.
pub record Remains (whole left : Work) (before now : ℕ) : Type 0 where
  pub done : before + left.steps ≡ now + whole.steps
  pub sorting : left.sorts ≡ true → whole.sorts ≡ true

or_first : (a b : Bool) → a ≡ true → (a || b) ≡ true
or_first true b e = refl
or_first false b e = absurd (cc)

or_second : (a b : Bool) → b ≡ true → (a || b) ≡ true
or_second true b e = refl
or_second false b e = e

pub remains_all : (work : Work) (before : ℕ) → Remains work work before before
remains_all work before = record { done = refl; sorting = λ e. e }

-- A part was done.
pub part_done : (whole left part rest : Work) (b : Bool) (before now after : ℕ)
    → left ≡ and_on b part rest → b ≡ true → now ≡ after + part.steps
    → Remains whole left before now → Remains whole rest before after
part_done whole left part rest b before now after is on took h =
    let all : left ≡ both part rest = rw (is, on) refl in
    record {
      done = omega (arith, ap (λ w. w.steps) all, took, h.done);
      sorting = λ e. h.sorting (ap (λ w. w.sorts) all ∙ or_second part.sorts rest.sorts e);
    }

-- The last part was done.
pub last_done : (whole left part rest : Work) (b : Bool) (before now after : ℕ)
    → left ≡ and_on b part rest → b ≡ false → now ≡ after + part.steps
    → Remains whole left before now → before ≡ after + whole.steps
last_done whole left part rest b before now after is off took h =
    let all : left ≡ part = rw (is, off) refl in
    omega (arith, ap (λ w. w.steps) all, took, h.done)

-- Nothing is left.
pub all_done : (whole left : Work) (before now : ℕ) → left ≡ steps_alone 0
    → Remains whole left before now → before ≡ now + whole.steps
all_done whole left before now is h = omega (arith, ap (λ w. w.steps) is, h.done)

lacks_by : (whole part rest : Work) (b : Bool) (before now : ℕ) (e : Unanswered)
    → Remains whole (and_on b part rest) before now → Lacks now part e → Lacks before whole e
lacks_by whole part rest true before now TooManySteps h lack = omega (arith, h.done, lack)
lacks_by whole part rest false before now TooManySteps h lack = omega (arith, h.done, lack)
lacks_by whole part rest true before now OutOfMemory h lack =
    h.sorting (or_first part.sorts rest.sorts lack)
lacks_by whole part rest false before now OutOfMemory h lack = h.sorting lack

-- A part lacked something, so the whole does.
pub part_lacks : (r : Result Bool Unanswered) (e : Unanswered) (found : Bool)
    (whole left part rest : Work) (b : Bool) (before now after : ℕ) → r ≡ Err e
    → left ≡ and_on b part rest → Remains whole left before now → Lacks now part e
    → FoundBy r found whole before after
part_lacks r e found whole left part rest b before now after is split h lack =
    rw is (lacks_by whole part rest b before now e
    (subst (λ (w : Work). Remains whole w before now) split h) lack)

-- The scalars of an array are sorted, or not.
pub sorted_done : (ts us : Trees) (b : Bool) (before after : ℕ) → b ≡ true → ts ≡ us
    → before ≡ after + scalar_weights us → before ≡ after + (sort_work b ts).steps
sorted_done ts us b before after on same took = rw (on, same) took

pub sorted_lacks : (e : Unanswered) (ts us : Trees) (b : Bool) (before : ℕ) → b ≡ true
    → ts ≡ us → FallsShort before (scalar_weights us) e → Lacks before (sort_work b ts) e
sorted_lacks TooManySteps ts us b before on same short = rw (on, same) short
sorted_lacks OutOfMemory ts us b before on same short = rw on refl

pub sort_ended : {A : Type 0} (r : Result A Unanswered) (e : Unanswered) (ts us : Trees) (b : Bool)
    (before after : ℕ) → r ≡ Err e → b ≡ true → ts ≡ us → FallsShort before (scalar_weights us) e
    → DoneBy r (sort_work b ts) before after
sort_ended r e ts us b before after is on same short =
    rw is (sorted_lacks e ts us b before on same short)

pub unsorted_done : (ts : Trees) (b : Bool) (before : ℕ) → b ≡ false
    → before ≡ before + (sort_work b ts).steps
unsorted_done ts b before off = rw off (omega arith)

counted : (ts : List Tree) → count (trees_of ts) ≡ length ts
counted [] = refl
counted (t ∷ ts) = ap suc (counted ts)

-- What an array is searched for, after its scalars were sorted or not.
pub search_begun : (us : List Tree) (ts : Trees) (n : ℕ) (b : Bool) (before now : ℕ)
    → n ≡ length us → b ≡ are_many n (count ts)
    → before ≡ now + (sort_work (are_many n (count ts)) ts).steps
    → Remains (array_work (trees_of us) ts) (items_work b (trees_of us) ts) before now
search_begun us ts n b before now many is took =
    let same : n ≡ count (trees_of us) = many ∙ sym (counted us) in
    rw (is, same) record {
      done = omega (arith, rw same at took);
      sorting = λ e. or_second (sort_work (are_many (count (trees_of us)) (count ts)) ts).sorts
          (items_work (are_many (count (trees_of us)) (count ts)) (trees_of us) ts).sorts e;
    }

first_short : (e : Unanswered) (first second : Work) (before : ℕ) → Lacks before first e
    → Lacks before (both first second) e
first_short TooManySteps first second before lack = omega (arith, lack)
first_short OutOfMemory first second before lack = or_first first.sorts second.sorts lack

pub sort_lacks : (r : Result Bool Unanswered) (e : Unanswered) (found : Bool) (us : List Tree)
    (ts : Trees) (n before after : ℕ) → r ≡ Err e → n ≡ length us
    → Lacks before (sort_work (are_many n (count ts)) ts) e
    → FoundBy r found (array_work (trees_of us) ts) before after
sort_lacks r e found us ts n before after is many lack =
    let same : n ≡ count (trees_of us) = many ∙ sym (counted us) in
    rw is (first_short e (sort_work (are_many (count (trees_of us)) (count ts)) ts)
    (items_work (are_many (count (trees_of us)) (count ts)) (trees_of us) ts) before
    (rw same at lack))

-- Steps were taken before the search.
pub found_after : (r : Result Bool Unanswered) (f g : Bool) (n : ℕ) (work : Work)
    (first mid last : ℕ) → f ≡ g → first ≡ mid + n → FoundBy r f work mid last
    → FoundBy r g (both (steps_alone n) work) first last
found_after (Err TooManySteps) f g n work first mid last e took h = omega (arith, took, h)
found_after (Err OutOfMemory) f g n work first mid last e took h = h
found_after (Ok b) f g n work first mid last e took h = (h.0 ∙ e, omega (arith, took, h.1))

pub found_same : (r : Result Bool Unanswered) (f g : Bool) (w v : Work) (before after : ℕ)
    → f ≡ g → w ≡ v → FoundBy r f w before after → FoundBy r g v before after
found_same r f g w v before after e i h = rw (← e, ← i) h

-- Too few steps were left to begin.
pub too_few : (r : Result Bool Unanswered) (e : Unanswered) (found : Bool) (work : Work)
    (before after : ℕ) → r ≡ Err e → e ≡ TooManySteps → before < work.steps
    → FoundBy r found work before after
too_few r e found work before after is why h = rw (is, why) h

-- ---- the same of items and members

pub until_first : (passes : Tree → Bool) (work : Tree → Work) (ts others : List Tree) (t : Tree)
    → ts ≡ t ∷ others → work_until passes work (trees_of ts)
    ≡ and_on (not (passes t)) (work t) (work_until passes work (trees_of others))
until_first passes work ts others t e = rw e refl

pub until_none : (passes : Tree → Bool) (work : Tree → Work) (ts : List Tree) → ts ≡ []
    → work_until passes work (trees_of ts) ≡ steps_alone 0
until_none passes work ts e = rw e refl

pub items_first : (sorted : Bool) (us others : List Tree) (u : Tree) (ts : Trees)
    → us ≡ u ∷ others → items_work sorted (trees_of us) ts
    ≡ and_on (some_tree (λ t. contained u t) ts)
    (find_work sorted u (λ t. contained_work u t) ts) (items_work sorted (trees_of others) ts)
items_first sorted us others u ts e = rw e refl

pub items_none : (sorted : Bool) (us : List Tree) (ts : Trees) → us ≡ []
    → items_work sorted (trees_of us) ts ≡ steps_alone 0
items_none sorted us ts e = rw e refl

pub members_first : (qs others : List (List ℕ × Tree)) (k : List ℕ) (u : Tree) (ps : Pairs)
    → qs ≡ (k, u) ∷ others → members_work (pairs_of qs) ps
    ≡ both (steps_alone (passing_steps k ps))
    (first_work k (λ t. contained u t) (λ t. contained_work u t)
    (λ left. members_work (pairs_of others) left) (from_key k ps))
members_first qs others k u ps e = rw e refl

pub members_work_none : (qs : List (List ℕ × Tree)) (ps : Pairs) → qs ≡ []
    → members_work (pairs_of qs) ps ≡ steps_alone 0
members_work_none qs ps e = rw e refl

pub arrays_work : (t u : Tree) (ts us : List Tree) → t ≡ array_of ts → u ≡ array_of us
    → both (steps_alone 1) (array_work (trees_of us) (items_or_none t)) ≡ contained_work u t
arrays_work t u ts us e f = rw (e, f) refl

pub objects_work : (t u : Tree) (ps qs : List (List ℕ × Tree)) → t ≡ object_of ps
    → u ≡ object_of qs
    → both (steps_alone 1) (members_work (pairs_of qs) (pairs_of ps)) ≡ contained_work u t
objects_work t u ps qs e f = rw (e, f) refl

-- Where there is no array nothing is looked for.
few_there : (wanted : ℕ) → are_many wanted 0 ≡ false
few_there wanted = and-false (nat_lt 16 wanted)

nothing_by : (sorted : Bool) (us : Trees) → sorted ≡ false
    → (items_work sorted us no_trees).steps ≡ 0
nothing_by sorted no_trees e = refl
nothing_by sorted (tree u us) e = rw e refl

-- The array of a tree that has none.
no_array : (t : Tree) → None ≡ items_of t → items_or_none t ≡ no_trees
no_array null e = refl
no_array (boolean b) e = refl
no_array (number x) e = refl
no_array (text s) e = refl
no_array (extension x) e = refl
no_array (object ps) e = refl
no_array (array ts) e = absurd (cc)

pub none_are_many : (t : Tree) (wanted : ℕ) → None ≡ items_of t
    → are_many wanted (count (items_or_none t)) ≡ false
none_are_many t wanted e = rw (no_array t e) (few_there wanted)

pub items_counted : (t : Tree) (ts : List Tree) (wanted : ℕ) (b : Bool) → Some ts ≡ items_of t
    → b ≡ (nat_lt 16 wanted && nat_lt 16 (length ts))
    → b ≡ are_many wanted (count (items_or_none t))
items_counted t ts wanted b e is =
    rw (array_items t ts e) (is ∙ ap (λ n. nat_lt 16 wanted && nat_lt 16 n) (sym (counted ts)))

pub nothing_left : (t : Tree) (us : List Tree) (sorted : Bool) (wanted : ℕ) → None ≡ items_of t
    → sorted ≡ are_many wanted (count (items_or_none t))
    → (items_work sorted (trees_of us) (items_or_none t)).steps ≡ 0
nothing_left t us sorted wanted e is =
    let none = no_array t e in
    rw none (nothing_by sorted (trees_of us) (is ∙ rw none (few_there wanted)))

-- A whole document contains another as its value does, unless it is an array and the other none.
pub whole_item_work : (t : Tree) (ts : List Tree) (node : Node) → t ≡ array_of ts
    → ((d : Document) → node ≡ nodes.Container d → ⊥)
    → contains_work t (node_tree node)
    ≡ work_until (λ x. contained (node_tree node) x) (λ x. contained_work (node_tree node) x)
    (trees_of ts)
whole_item_work t ts nodes.Null e h = rw e refl
whole_item_work t ts (nodes.Boolean b) e h = rw e refl
whole_item_work t ts (nodes.Number x) e h = rw e refl
whole_item_work t ts (nodes.String s) e h = rw e refl
whole_item_work t ts (nodes.Extension x) e h = rw e refl
whole_item_work t ts (nodes.Container d) e h = absurd (h d refl)

-- Two values of which one at least is no container.
one_plain : (u t : Tree) → (IsContainer t → IsContainer u → ⊥)
    → steps_alone (compare_steps t u) ≡ contained_work u t
one_plain (array us) (array ts) h = absurd (h refl refl)
one_plain (object qs) (object ps) h = absurd (h refl refl)
one_plain u t h = refl

in_container : (node : Node) → HoldsNoScalar node → IsContainer (node_tree node)
    → (d : Document) × (node ≡ nodes.Container d)
in_container (nodes.Container d) h i = (d, refl)
in_container nodes.Null h i = absurd (omega (arith, i))
in_container (nodes.Boolean true) h i = absurd (omega (arith, i))
in_container (nodes.Boolean false) h i = absurd (omega (arith, i))
in_container (nodes.Number x) h i = absurd (omega (arith, i))
in_container (nodes.String s) h i = absurd (omega (arith, i))
in_container (nodes.Extension x) h i = absurd (omega (arith, i))

pub plain_work : (left right : Node) → HoldsNoScalar left → HoldsNoScalar right
    → ((d e : Document) → left ≡ nodes.Container d → right ≡ nodes.Container e → ⊥)
    → steps_alone (compare_steps (node_tree left) (node_tree right))
    ≡ contained_work (node_tree right) (node_tree left)
plain_work left right h g other =
    one_plain (node_tree right) (node_tree left)
    (λ i j. let (d, is) = in_container left h i in
    let (e, are) = in_container right g j in other d e is are)

-- A scalar is looked for among sorted ones, if they are there, and all else in one after the other.
scalar_there : (u : Tree) → (IsContainer u → ⊥) → is_scalar u ≡ true
scalar_there (array ts) h = absurd (h refl)
scalar_there (object ps) h = absurd (h refl)
scalar_there u h = refl

pub sorted_found : (u : Tree) (work : Tree → Work) (ts : Trees) (sorted : Bool) → sorted ≡ true
    → (IsContainer u → ⊥) → steps_alone (weight u) ≡ find_work sorted u work ts
sorted_found u work ts sorted is h = rw (is, scalar_there u h) refl

-- ---- members up to the first whose key is not below the name

pub from_less : (name key : List ℕ) (t : Tree) (left others : List (List ℕ × Tree))
    → left ≡ (key, t) ∷ others → slice_cmp nat_cmp key name ≡ Less
    → from_key name (pairs_of left) ≡ from_key name (pairs_of others)
from_less name key t left others e less = rw (e, less) refl

pub passing_less : (name key : List ℕ) (t : Tree) (left others : List (List ℕ × Tree))
    → left ≡ (key, t) ∷ others → slice_cmp nat_cmp key name ≡ Less
    → passing_steps name (pairs_of left)
    ≡ suc (length key) + passing_steps name (pairs_of others)
passing_less name key t left others e less = rw (e, less) refl

last_by : (o : Ordering) (n m : ℕ) → (o ≡ Less → ⊥) → n + (if is_lt o then m else 0) ≡ n
last_by Less n m h = absurd (h refl)
last_by Equal n m h = omega arith
last_by Greater n m h = omega arith

pub passing_last : (name key : List ℕ) (t : Tree) (left others : List (List ℕ × Tree))
    → left ≡ (key, t) ∷ others → (slice_cmp nat_cmp key name ≡ Less → ⊥)
    → passing_steps name (pairs_of left) ≡ suc (length key)
passing_last name key t left others e h =
    rw e (last_by (slice_cmp nat_cmp key name) (suc (length key))
    (passing_steps name (pairs_of others)) h)

pub passing_none : (name : List ℕ) (left : List (List ℕ × Tree)) → left ≡ []
    → passing_steps name (pairs_of left) ≡ 0
passing_none name left e = rw e refl

pub first_equal : (name key : List ℕ) (t : Tree) (left others : List (List ℕ × Tree))
    (passes : Tree → Bool) (work : Tree → Work) (later : Pairs → Work)
    → left ≡ (key, t) ∷ others → slice_cmp nat_cmp key name ≡ Equal
    → first_work name passes work later (from_key name (pairs_of left))
    ≡ found_work passes work later (pairs_of others) (Some t)
first_equal name key t left others passes work later e same = rw (e, same, same) refl

pub first_greater : (name key : List ℕ) (t : Tree) (left others : List (List ℕ × Tree))
    (passes : Tree → Bool) (work : Tree → Work) (later : Pairs → Work)
    → left ≡ (key, t) ∷ others → slice_cmp nat_cmp key name ≡ Greater
    → first_work name passes work later (from_key name (pairs_of left)) ≡ steps_alone 0
first_greater name key t left others passes work later e more = rw (e, more, more) refl

pub first_none : (name : List ℕ) (left : List (List ℕ × Tree)) (passes : Tree → Bool)
    (work : Tree → Work) (later : Pairs → Work) → left ≡ []
    → first_work name passes work later (from_key name (pairs_of left)) ≡ steps_alone 0
first_none name left passes work later e = rw e refl

-- The members that were passed are done, and what was found is left.
pub member_left : (qs others : List (List ℕ × Tree)) (k : List ℕ) (u : Tree) (ps after : Pairs)
    (found : Option Tree) (whole : Work) (before now mid : ℕ) → qs ≡ (k, u) ∷ others
    → ((passes : Tree → Bool) (work : Tree → Work) (later : Pairs → Work)
    → first_work k passes work later (from_key k ps) ≡ found_work passes work later after found)
    → now ≡ mid + passing_steps k ps
    → Remains whole (members_work (pairs_of qs) ps) before now
    → Remains whole (found_work (λ t. contained u t) (λ t. contained_work u t)
    (λ left. members_work (pairs_of others) left) after found) before mid
member_left qs others k u ps after found whole before now mid e first took h =
    let is = members_first qs others k u ps e
    ∙ ap (λ w. both (steps_alone (passing_steps k ps)) w) (first (λ t. contained u t)
    (λ t. contained_work u t) (λ left. members_work (pairs_of others) left)) in
    record {
      done = omega (arith, ap (λ w. w.steps) is, took, h.done);
      sorting = λ s. h.sorting (ap (λ w. w.sorts) is ∙ s);
    }

pub value_left : (passes : Tree → Bool) (work : Tree → Work) (later : Pairs → Work) (ps : Pairs)
    (o : Option Tree) (v : Tree) → o ≡ Some v
    → found_work passes work later ps o ≡ and_on (passes v) (work v) (later ps)
value_left passes work later ps o v e = rw e refl

pub no_value_left : (passes : Tree → Bool) (work : Tree → Work) (later : Pairs → Work)
    (ps : Pairs) (o : Option Tree) → o ≡ None
    → found_work passes work later ps o ≡ steps_alone 0
no_value_left passes work later ps o e = rw e refl

-- A search among members takes at least the steps to pass them to the first name.
pub passing_within : (qs others : List (List ℕ × Tree)) (k : List ℕ) (u : Tree) (ps : Pairs)
    → qs ≡ (k, u) ∷ others → passing_steps k ps ≤ (members_work (pairs_of qs) ps).steps
passing_within qs others k u ps e = rw e (omega arith)
