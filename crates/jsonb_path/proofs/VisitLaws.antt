-- A walk down, with the values that it has still to visit.
use Rattle.std.proofs.Common.{◌≡◌, ℕ, suc, ◌+◌, ◌<◌, List, [], ◌∷◌, ◌++◌, ◌∙◌, ap, arith, length}
use Rattle.std.proofs.Common.{length-append}
use Rattle.std.proofs.Common.{refl, sym}
use Rattle.std.specs.Prelude.{Option, None, Some, map, option_to_list}
use Rattle.std.proofs.lemmas.List.{append-nil, append_assoc, length-map, map-append}
use Rattle.jsonb_value.specs.Tree.{Tree, Trees, no_trees, tree, Pairs, no_pairs, pair, null}
use Rattle.jsonb_value.specs.Tree.{boolean}
use Rattle.jsonb_value.specs.Tree.{number, text, extension, array, object}
use Rattle.jsonb.specs.Node as nodes
use Rattle.jsonb.specs.Node.{pair_list, tree_list}
use Rattle.jsonb_path.specs.declared.descend.Children.{Children}
use Rattle.jsonb_path.specs.declared.path.Level.{Level}
use Rattle.jsonb_path.specs.Found.{value_tree}
use Rattle.jsonb_path.specs.Meaning.{below, below_items, below_members, list_of}
use Rattle.jsonb_path.specs.Meaning.{meant, values_of}
use Rattle.jsonb_path.specs.Visits.{below_all, children_left, children_of, stack_below}
use Rattle.jsonb_path.proofs.FoundLaws.{values_of_list}

-- ---- children

list_is : (ts : Trees) → tree_list ts ≡ list_of ts
list_is no_trees = refl
list_is (tree t ts) = ap (λ us. t ∷ us) (list_is ts)

pub children_items : (t : Tree) (us : List Tree) → Some us ≡ nodes.items_of t
    → Some us ≡ children_of t
children_items (array ts) us is = is ∙ ap Some (list_is ts)
children_items t us is = absurd (cc)

pub children_pairs : (t : Tree) (ms : List (List ℕ × Tree)) → Some ms ≡ nodes.members_of t
    → Some (map value_tree ms) ≡ children_of t
children_pairs (object ps) ms is =
    let same : ms ≡ pair_list ps = cc in
    ap (λ xs. Some (map value_tree xs)) same ∙ ap Some (values_of_list ps)
children_pairs t ms is = absurd (cc)

pub children_none : (t : Tree) → None ≡ nodes.items_of t → None ≡ nodes.members_of t
    → None ≡ children_of t
children_none (array ts) no_items no_members = absurd (cc)
children_none (object ps) no_items no_members = absurd (cc)
children_none t no_items no_members = refl

-- ---- what they give

items_below : (a b : Level) (l : ℕ) (ts : Trees) → below_items a b l ts
    ≡ below_all a b l (list_of ts)
items_below a b l no_trees = refl
items_below a b l (tree t ts) =
    ap (λ us. meant a b (suc l) t ++ (below a b (suc l) t ++ us)) (items_below a b l ts)

members_below : (a b : Level) (l : ℕ) (ps : Pairs)
    → below_members a b l ps ≡ below_all a b l (values_of ps)
members_below a b l no_pairs = refl
members_below a b l (pair k t ps) =
    ap (λ us. meant a b (suc l) t ++ (below a b (suc l) t ++ us)) (members_below a b l ps)

-- the stack of one list, or of none
below_is : (a b : Level) (l : ℕ) (t : Tree)
    → below a b l t ≡ stack_below a b l (option_to_list (children_of t))
below_is a b l (array ts) = items_below a b l ts
below_is a b l (object ps) = members_below a b l ps
below_is a b l t = refl

-- the last list of a stack comes first
last_first : (a b : Level) (l : ℕ) (stack : List (List Tree)) (ts : List Tree)
    → stack_below a b l (stack ++ (ts ∷ []))
    ≡ below_all a b (l + length stack) ts ++ stack_below a b l stack
last_first a b l [] ts =
    sym (append-nil (below_all a b l ts)) ∙ ap (λ n. below_all a b n ts ++ []) (omega arith)
last_first a b l (us ∷ stack) ts =
    ap (λ vs. vs ++ below_all a b l us) (last_first a b (suc l) stack ts)
    ∙ append_assoc (below_all a b (suc l + length stack) ts) (stack_below a b (suc l) stack)
    (below_all a b l us)
    ∙ ap (λ n. below_all a b n ts ++ (stack_below a b (suc l) stack ++ below_all a b l us))
    (omega arith)

-- more lists than that come first
later_first : (a b : Level) (l : ℕ) (stack : List (List Tree)) (o : Option (List Tree))
    → stack_below a b l (stack ++ option_to_list o)
    ≡ stack_below a b (l + length stack) (option_to_list o) ++ stack_below a b l stack
later_first a b l stack None = ap (stack_below a b l) (append-nil stack)
later_first a b l stack (Some ts) = last_first a b l stack ts

last_of : (a b : Level) (stack : List (List Tree)) (ts : List Tree)
    → stack_below a b 0 (stack ++ (ts ∷ []))
    ≡ below_all a b (length stack) ts ++ stack_below a b 0 stack
last_of a b stack ts =
    last_first a b 0 stack ts
    ∙ ap (λ n. below_all a b n ts ++ stack_below a b 0 stack) (omega arith)

later_of : (a b : Level) (stack : List (List Tree)) (o : Option (List Tree)) (n : ℕ)
    → n ≡ length stack → stack_below a b 0 (stack ++ option_to_list o)
    ≡ stack_below a b n (option_to_list o) ++ stack_below a b 0 stack
later_of a b stack o n e =
    later_first a b 0 stack o
    ∙ ap (λ k. stack_below a b k (option_to_list o) ++ stack_below a b 0 stack) (omega (arith, e))

module _ (a b : Level) (stack : List (List Tree)) (t : Tree) (all rest : List Tree)
    (first : all ≡ t ∷ rest) where
  -- a value visited, and then what is below it and beside it
  step : stack_below a b 0 (stack ++ (all ∷ []))
      ≡ meant a b (suc (length stack)) t
      ++ stack_below a b 0 ((stack ++ (rest ∷ [])) ++ option_to_list (children_of t))
  step =
      let n = length stack in
      let m = meant a b (suc n) t in
      let d = below a b (suc n) t in
      let r = below_all a b n rest in
      let s = stack_below a b 0 stack in
      let longer : length (stack ++ (rest ∷ [])) ≡ suc n =
      omega (arith, length-append {A = List Tree}) in
      ap (λ ts. stack_below a b 0 (stack ++ (ts ∷ []))) first
      ∙ last_of a b stack (t ∷ rest)
      ∙ append_assoc m (d ++ r) s
      ∙ ap (λ vs. m ++ vs) (append_assoc d r s
      ∙ ap (λ vs. vs ++ (r ++ s)) (below_is a b (suc n) t)
      ∙ ap (λ vs. stack_below a b (suc n) (option_to_list (children_of t)) ++ vs)
      (sym (last_of a b stack rest))
      ∙ sym (later_of a b (stack ++ (rest ∷ [])) (children_of t) (suc n) (sym longer)))

-- an empty list on the stack gives nothing
pub nothing_there : (a b : Level) (stack : List (List Tree)) (all : List Tree) → all ≡ []
    → stack_below a b 0 (stack ++ (all ∷ [])) ≡ stack_below a b 0 stack
nothing_there a b stack all none =
    ap (λ ts. stack_below a b 0 (stack ++ (ts ∷ []))) none ∙ last_of a b stack []

-- ---- how much is left

abbrev mutual
  pub tree_size : Tree → ℕ
  tree_size null = 2
  tree_size (boolean x) = 2
  tree_size (number x) = 2
  tree_size (text x) = 2
  tree_size (extension x) = 2
  tree_size (array ts) = suc (suc (trees_size ts))
  tree_size (object ps) = suc (suc (pairs_size ps))

  pub trees_size : Trees → ℕ
  trees_size no_trees = 0
  trees_size (tree t ts) = tree_size t + trees_size ts

  pub pairs_size : Pairs → ℕ
  pairs_size no_pairs = 0
  pairs_size (pair k t ps) = tree_size t + pairs_size ps

abbrev pub list_size : List Tree → ℕ
list_size [] = 0
list_size (t ∷ ts) = tree_size t + list_size ts

abbrev pub stack_size : List (List Tree) → ℕ
stack_size [] = 0
stack_size (ts ∷ stack) = suc (list_size ts + stack_size stack)

items_size : (ts : Trees) → trees_size ts ≡ list_size (list_of ts)
items_size no_trees = refl
items_size (tree t ts) = ap (λ n. tree_size t + n) (items_size ts)

members_size : (ps : Pairs) → pairs_size ps ≡ list_size (values_of ps)
members_size no_pairs = refl
members_size (pair k t ps) = ap (λ n. tree_size t + n) (members_size ps)

children_size : (t : Tree) → stack_size (option_to_list (children_of t)) < tree_size t
children_size (array ts) = omega (arith, items_size ts)
children_size (object ps) = omega (arith, members_size ps)
children_size t = omega arith

size_joined : (xs ys : List (List Tree)) → stack_size (xs ++ ys) ≡ stack_size xs + stack_size ys
size_joined [] ys = omega arith
size_joined (x ∷ xs) ys = omega (arith, size_joined xs ys)

-- each turn leaves less
pub fewer_left : (stack : List (List Tree)) (t : Tree) (all rest : List Tree) → all ≡ t ∷ rest
    → stack_size ((stack ++ (rest ∷ [])) ++ option_to_list (children_of t))
    < stack_size (stack ++ (all ∷ []))
fewer_left stack t all rest first =
    let a = size_joined (stack ++ (rest ∷ [])) (option_to_list (children_of t)) in
    let b = size_joined stack (rest ∷ []) in
    let c : stack_size (stack ++ (all ∷ [])) ≡ stack_size stack + stack_size ((t ∷ rest) ∷ []) =
    ap (λ ts. stack_size (stack ++ (ts ∷ []))) first ∙ size_joined stack ((t ∷ rest) ∷ []) in
    let d = children_size t in
    omega (arith, a, b, c, d)

pub fewer_lists : (stack : List (List Tree)) (all : List Tree)
    → stack_size stack < stack_size (stack ++ (all ∷ []))
fewer_lists stack all = omega (arith, size_joined stack (all ∷ []))

-- ---- the turns of a walk

module _ (stack full pushed last : List Children) (now left : Children) (t : Tree)
    (popped : full ≡ stack ++ (now ∷ [])) (first : children_left now ≡ t ∷ children_left left)
    (back : pushed ≡ stack ++ (left ∷ []))
    (more : map children_left last
    ≡ map children_left pushed ++ option_to_list (children_of t)) where
  popped_lists : map children_left full ≡ map children_left stack ++ (children_left now ∷ [])
  popped_lists = ap (map children_left) popped ∙ map-append children_left stack (now ∷ [])

  last_lists : map children_left last
      ≡ (map children_left stack ++ (children_left left ∷ [])) ++ option_to_list (children_of t)
  last_lists =
      more ∙ ap (λ s. s ++ option_to_list (children_of t))
      (ap (map children_left) back ∙ map-append children_left stack (left ∷ []))

  -- one value is visited, and what is below it is put on the stack
  pub turn : (a b : Level) (level : ℕ) → level ≡ length stack + 1
      → meant a b level t ++ stack_below a b 0 (map children_left last)
      ≡ stack_below a b 0 (map children_left full)
  turn a b level e =
      let deep : level ≡ suc (length (map children_left stack)) =
      omega (arith, e, length-map stack children_left) in
      ap (λ n. meant a b n t ++ stack_below a b 0 (map children_left last)) deep
      ∙ ap (λ s. meant a b (suc (length (map children_left stack))) t ++ stack_below a b 0 s)
      last_lists
      ∙ sym (step a b (map children_left stack) t (children_left now) (children_left left) first)
      ∙ ap (stack_below a b 0) (sym popped_lists)

  pub turn_fewer : stack_size (map children_left last) < stack_size (map children_left full)
  turn_fewer =
      let less = fewer_left (map children_left stack) t (children_left now) (children_left left)
      first in
      let e = ap stack_size last_lists in
      let f = ap stack_size popped_lists in
      omega (arith, less, e, f)

module _ (stack full : List Children) (now : Children) (popped : full ≡ stack ++ (now ∷ [])) where
  lists : map children_left full ≡ map children_left stack ++ (children_left now ∷ [])
  lists = ap (map children_left) popped ∙ map-append children_left stack (now ∷ [])

  -- a list without children is taken off
  pub taken_off : (a b : Level) → children_left now ≡ []
      → stack_below a b 0 (map children_left stack) ≡ stack_below a b 0 (map children_left full)
  taken_off a b none =
      sym (nothing_there a b (map children_left stack) (children_left now) none)
      ∙ ap (stack_below a b 0) (sym lists)

  pub fewer_after : stack_size (map children_left stack) < stack_size (map children_left full)
  fewer_after =
      let less = fewer_lists (map children_left stack) (children_left now) in
      let f = ap stack_size lists in
      omega (arith, less, f)

-- the children of the first value
pub started : (a b : Level) (stack empty : List Children) (t : Tree) → empty ≡ []
    → map children_left stack ≡ map children_left empty ++ option_to_list (children_of t)
    → stack_below a b 0 (map children_left stack) ≡ below a b 0 t
started a b stack empty t none pushed =
    ap (stack_below a b 0) (pushed
    ∙ ap (λ s. map children_left s ++ option_to_list (children_of t)) none)
    ∙ sym (below_is a b 0 t)

pub ruleset children = (children_items, children_pairs, children_none)
