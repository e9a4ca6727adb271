-- What walks over values find, one value after the other.
use Rattle.std.proofs.Common.{◌≡◌, ℕ, ℤ, Bool, true, false, List, [], ◌∷◌, ◌++◌, ◌∙◌, ap, sym, refl}
use Rattle.std.proofs.Common.{◌&&◌, ◌==◌, arith, get_or, length, ◌<◌, ◌≤◌}
use Rattle.std.specs.Prelude.{Option, None, Some, Ok, Err, if◌then◌else◌, map, nat_eq}
use Rattle.std.specs.Prelude.{FitsSigned}
use Rattle.std.specs.Int.{w32}
use Rattle.std.specs.Cmp.Lexicographic.{pointwise}
use Rattle.std.proofs.Math.Bool.{and-false}
use Rattle.std.proofs.lemmas.Bool.{eq-eqb, lt-ltb}
use Rattle.std.proofs.lemmas.Bool.Decides.{Decides-eqb}
use Rattle.std.proofs.lemmas.List.{append-nil, append_assoc}
use Rattle.std.proofs.lemmas.Slice.Eq.{slice_eq-Decides}
use Rattle.jsonb_value.specs.Tree.{Tree, Pairs, no_pairs, pair, number, text}
use Rattle.jsonb_value.specs.Tree.{object}
use Rattle.jsonb_value.specs.declared.number.Number.{Number}
use Rattle.jsonb_value.specs.NumCode.{is_within}
use Rattle.jsonb_value.specs.Order.{fraction_of}
use Rattle.jsonb_value.proofs.PayloadLaws.{fits_within}
use Rattle.jsonb.specs.declared.node.Node.{Node}
use Rattle.jsonb.specs.Lookup.{find_pair}
use Rattle.jsonb.specs.Node as nodes
use Rattle.jsonb.specs.Node.{node_tree, pair_list, value_of_key}
use Rattle.jsonb_path.specs.declared.outcome.WalkError.{WalkError}
use Rattle.jsonb_path.specs.declared.outcome.WalkError.TheVariants.{Failed, OutOfMemory}
use Rattle.jsonb_path.specs.declared.path.Mode.TheVariants.{Lax, Strict}
use Rattle.jsonb_path.specs.declared.path.PathError.{PathError}
use Rattle.jsonb_path.specs.declared.path.PathError.TheVariants as errors
use Rattle.jsonb_path.specs.Arithmetic.{whole_part_of}
use Rattle.jsonb_path.specs.Found.{Finds, ended, found_then, lone_number, name_tree, number_in}
use Rattle.jsonb_path.specs.Found.{value_tree}
use Rattle.jsonb_path.specs.Meaning.{Outcome, Place, before_end, each, gives, joined, keys_of}
use Rattle.jsonb_path.specs.Meaning.{all_unwrapped, fails, found as found_of, of_number}
use Rattle.jsonb_path.specs.Meaning.{cut, one_index, only_number, pairs_in, unwrapped}
use Rattle.jsonb_path.specs.Meaning.{member_of, members_of, unless_forgiven, values_named}
use Rattle.jsonb_path.specs.Meaning.{values_of}
use Rattle.jsonb_path.proofs.PathTextLaws.{first_left, later, nothing_left}

-- ---- one after the other

-- what the first gives was found, and the second is left
pub onward : (before found : List Node) (a : Unit {0}) (p q w : Outcome)
    → found_then before (joined p q) ≡ w → Finds before found (Ok a) p
    → found_then found q ≡ w
onward before found a p q w whole is =
    let e : None ≡ p.error = ap (λ (o : Outcome). o.error) is in
    let v : map node_tree found ≡ map node_tree before ++ p.values =
    sym (append-nil (map node_tree found)) ∙ ap (λ (o : Outcome). o.values) is in
    ap (λ (vs : List Tree). ended (vs ++ q.values) q.error) v
    ∙ ap (λ (vs : List Tree). ended vs q.error)
    (append_assoc (map node_tree before) p.values q.values)
    ∙ ap (λ (x : Option PathError). found_then before (before_end p.values x q)) e
    ∙ whole

-- the first ended with an error, which ends the whole
pub stopped : (before found old : List Node) (x : WalkError) (p q o : Outcome)
    → found_then before (joined p q) ≡ found_then old o → Finds before found (Err x) p
    → Finds old found (Err x) o
stopped before found old (Failed e) p q o whole is =
    let same : Some e ≡ p.error = ap (λ (o : Outcome). o.error) is in
    is
    ∙ ap (λ (x : Option PathError). ended (map node_tree before ++ p.values) x)
    (sym same)
    ∙ ap (λ (x : Option PathError). found_then before (before_end p.values x q)) same
    ∙ whole
stopped before found old OutOfMemory p q o whole is = tt

-- ---- a step for each value

module _ (step : Tree → Outcome) (t : Tree) (all rest : List Tree) (first : all ≡ t ∷ rest) where
  pub step_on : (before found : List Node) (a : Unit {0}) (w : Outcome)
      → found_then before (each step all None) ≡ w → Finds before found (Ok a) (step t)
      → found_then found (each step rest None) ≡ w
  step_on before found a w whole is =
      onward before found a (step t) (each step rest None) w
      (ap (λ ts. found_then before (each step ts None)) (sym first) ∙ whole) is

  pub step_stops : (before found old : List Node) (x : WalkError) (o : Outcome)
      → found_then before (each step all None) ≡ found_then old o
      → Finds before found (Err x) (step t) → Finds old found (Err x) o
  step_stops before found old x o whole is =
      stopped before found old x (step t) (each step rest None) o
      (ap (λ ts. found_then before (each step ts None)) (sym first) ∙ whole) is

pub steps_end : (step : Tree → Outcome) (all : List Tree) → all ≡ []
    → (found old : List Node) (a : Unit {0}) (o : Outcome)
    → found_then found (each step all None) ≡ found_then old o → Finds old found (Ok a) o
steps_end step all none found old a o whole =
    ap (λ ts. found_then found (each step ts None)) (sym none) ∙ whole

-- the same over a slice
pub slice_on : (step : Tree → Outcome) (xs : List Node) (x : Node) → 1 ≤ length xs
    → x ≡ get_or xs 0 x → (before found : List Node) (a : Unit {0}) (w : Outcome)
    → found_then before (each step (map node_tree xs) None) ≡ w
    → Finds before found (Ok a) (step (node_tree x))
    → found_then found (each step (map node_tree (later xs)) None) ≡ w
slice_on step xs x any is before found a w whole one =
    step_on step (node_tree x) (map node_tree xs) (map node_tree (later xs))
    (ap (map node_tree) (first_left xs x any is)) before found a w whole one

pub slice_stops : (step : Tree → Outcome) (xs : List Node) (x : Node) → 1 ≤ length xs
    → x ≡ get_or xs 0 x → (before found old : List Node) (e : WalkError) (o : Outcome)
    → found_then before (each step (map node_tree xs) None) ≡ found_then old o
    → Finds before found (Err e) (step (node_tree x)) → Finds old found (Err e) o
slice_stops step xs x any is before found old e o whole one =
    step_stops step (node_tree x) (map node_tree xs) (map node_tree (later xs))
    (ap (map node_tree) (first_left xs x any is)) before found old e o whole one

pub slice_end : (step : Tree → Outcome) (xs : List Node) → length xs < 1
    → (found old : List Node) (a : Unit {0}) (o : Outcome)
    → found_then found (each step (map node_tree xs) None) ≡ found_then old o
    → Finds old found (Ok a) o
slice_end step xs none found old a o whole =
    steps_end step (map node_tree xs) (ap (map node_tree) (nothing_left xs none))
    found old a o whole

-- ---- values as they are

module _ (t : Tree) (all rest : List Tree) (first : all ≡ t ∷ rest) where
  pub value_on : (before found : List Node) (a : Unit {0}) (w : Outcome)
      → found_then before (gives all) ≡ w → Finds before found (Ok a) (gives (t ∷ []))
      → found_then found (gives rest) ≡ w
  value_on before found a w whole is =
      onward before found a (gives (t ∷ [])) (gives rest) w
      (ap (λ ts. found_then before (gives ts)) (sym first) ∙ whole) is

  pub value_stops : (before found old : List Node) (x : WalkError) (o : Outcome)
      → found_then before (gives all) ≡ found_then old o
      → Finds before found (Err x) (gives (t ∷ [])) → Finds old found (Err x) o
  value_stops before found old x o whole is =
      stopped before found old x (gives (t ∷ [])) (gives rest) o
      (ap (λ ts. found_then before (gives ts)) (sym first) ∙ whole) is

pub values_end : (all : List Tree) → all ≡ [] → (found old : List Node) (a : Unit {0})
    (o : Outcome) → found_then found (gives all) ≡ found_then old o → Finds old found (Ok a) o
values_end all none found old a o whole =
    ap (λ ts. found_then found (gives ts)) (sym none) ∙ whole

-- ---- members

name_by : (name key : List ℕ) (test : Bool) → test ≡ pointwise nat_eq name key
    → test ≡ ((length key == length name) && pointwise nat_eq name key)
name_by name key true is =
    let same : name ≡ key = (slice_eq-Decides Decides-eqb name key true is).0 refl in
    rw (← is, eq-eqb (length key) (length name) (ap length (sym same))) refl
name_by name key false is = rw (← is, and-false) refl

-- the values of a name are the one that a look-up finds, or none
as_values : Option Tree → List Tree
as_values None = []
as_values (Some t) = t ∷ []

chosen : (test : Bool) (t : Tree) (x : Option Tree) (ts : List Tree) → ts ≡ as_values x
    → (if test then t ∷ [] else ts) ≡ as_values (if test then Some t else x)
unfolding as_values
chosen true t x ts same = refl
chosen false t x ts same = same

found_values : (name : List ℕ) (ps : Pairs)
    → values_named name ps ≡ as_values (find_pair (pointwise nat_eq name) (length name) ps)
unfolding as_values
found_values name no_pairs = refl
found_values name (pair k t ps) =
    chosen (pointwise nat_eq name k) t (find_pair (pointwise nat_eq name) (length name) ps)
    (values_named name ps) (found_values name ps)
    ∙ ap (λ b. as_values (if b then Some t else find_pair (pointwise nat_eq name) (length name) ps))
    (name_by name k (pointwise nat_eq name k) refl)

pub member_there : (place : Place) (name : List ℕ) (t v : Tree) → Some v ≡ value_of_key name t
    → gives (v ∷ []) ≡ member_of place name t
unfolding as_values
member_there place name (object ps) v is =
    ap (found_of place) (ap as_values is ∙ sym (found_values name ps))
member_there place name t v is = absurd (cc)

pub member_missing : (place : Place) (name : List ℕ) (t : Tree) → None ≡ value_of_key name t
    → unless_forgiven place errors.MemberNotFound ≡ member_of place name t
unfolding as_values
member_missing place name (object ps) is =
    ap (found_of place) (ap as_values is ∙ sym (found_values name ps))
member_missing place name t is = refl

pub values_of_list : (ps : Pairs) → map value_tree (pair_list ps) ≡ values_of ps
values_of_list no_pairs = refl
values_of_list (pair k t ps) = ap (λ ts. t ∷ ts) (values_of_list ps)

pub keys_of_list : (ps : Pairs) → map name_tree (pair_list ps) ≡ keys_of ps
keys_of_list no_pairs = refl
keys_of_list (pair k t ps) = ap (λ ts. text k ∷ ts) (keys_of_list ps)

pub members_there : (place : Place) (t : Tree) (ms : List (List ℕ × Tree))
    → Some ms ≡ nodes.members_of t → gives (map value_tree ms) ≡ members_of place t
members_there place (object ps) ms is =
    let same : ms ≡ pair_list ps = cc in
    ap (λ xs. gives (map value_tree xs)) same ∙ ap gives (values_of_list ps)
members_there place t ms is = absurd (cc)

pub members_missing : (place : Place) (t : Tree) → None ≡ nodes.members_of t
    → unless_forgiven place errors.ObjectNotFound ≡ members_of place t
members_missing place (object ps) is = absurd (cc)
members_missing place t is = refl

-- ---- members of an object alone

pub names_there : (t : Tree) (ms : List (List ℕ × Tree)) → Some ms ≡ nodes.members_of t
    → gives (map name_tree ms) ≡ pairs_in keys_of t
names_there (object ps) ms is =
    let same : ms ≡ pair_list ps = cc in
    ap (λ xs. gives (map name_tree xs)) same ∙ ap gives (keys_of_list ps)
names_there t ms is = absurd (cc)

pub own_there : (t : Tree) (ms : List (List ℕ × Tree)) → Some ms ≡ nodes.members_of t
    → gives (map value_tree ms) ≡ pairs_in values_of t
own_there (object ps) ms is =
    let same : ms ≡ pair_list ps = cc in
    ap (λ xs. gives (map value_tree xs)) same ∙ ap gives (values_of_list ps)
own_there t ms is = absurd (cc)

pub none_own : (part : Pairs → List Tree) (t : Tree) → None ≡ nodes.members_of t
    → fails errors.ObjectNotFound ≡ pairs_in part t
none_own part (object ps) is = absurd (cc)
none_own part t is = refl

-- ---- numbers

pub number_there : (e : PathError) (ask : Number → Outcome) (t : Tree) (x : Number)
    → Some x ≡ number_in t → ask x ≡ of_number e ask t
number_there e ask (number y) x is = let same : x ≡ y = cc in ap ask same
number_there e ask t x is = absurd (cc)

pub number_missing : (e : PathError) (ask : Number → Outcome) (t : Tree)
    → None ≡ number_in t → fails e ≡ of_number e ask t
number_missing e ask (number y) is = absurd (cc)
number_missing e ask t is = refl

pub only_there : (e : PathError) (ask : Number → Outcome) (ts : List Tree) (x : Number)
    → Some x ≡ lone_number ts → ask x ≡ only_number e ask ts
only_there e ask [] x is = absurd (cc)
only_there e ask (number y ∷ []) x is = let same : x ≡ y = cc in ap ask same
only_there e ask (t ∷ []) x is = absurd (cc)
only_there e ask (t ∷ u ∷ us) x is = absurd (cc)

pub only_missing : (e : PathError) (ask : Number → Outcome) (ts : List Tree)
    → None ≡ lone_number ts → fails e ≡ only_number e ask ts
only_missing e ask [] is = refl
only_missing e ask (number y ∷ []) is = absurd (cc)
only_missing e ask (t ∷ []) is = refl
only_missing e ask (number y ∷ u ∷ us) is = refl
only_missing e ask (t ∷ u ∷ us) is = refl

-- ---- whole lists

pub strict_stays : (ts : List Tree) → all_unwrapped Strict ts ≡ ts
strict_stays [] = refl
strict_stays (t ∷ ts) = ap (λ us. t ∷ us) (strict_stays ts)

pub walk_ends : (found : List Node) (a : Unit {0}) (o : Outcome) (end : Option PathError)
    → Finds [] found (Ok a) o
    → ended (map node_tree found) end
    ≡ joined o (ended [] end)
walk_ends found a o end is =
    let e : None ≡ o.error = ap (λ (p : Outcome). p.error) is in
    let v : map node_tree found ≡ o.values =
    sym (append-nil (map node_tree found)) ∙ ap (λ (p : Outcome). p.values) is in
    ap (λ (vs : List Tree). ended vs end) (v ∙ sym (append-nil o.values))
    ∙ ap (λ (x : Option PathError). before_end o.values x (ended [] end)) e

-- what was found is the list
pub listed_are : (found : List Node) (a : Unit {0}) (ts : List Tree)
    → Finds [] found (Ok a) (gives ts) → map node_tree found ≡ ts
listed_are found a ts is =
    sym (append-nil (map node_tree found)) ∙ ap (λ (p : Outcome). p.values) is

pub walk_fails : (found : List Node) (f : PathError) (o q : Outcome)
    → Finds [] found (Err (Failed f)) o
    → ended (map node_tree found) (Some f) ≡ joined o q
walk_fails found f o q is =
    let e : Some f ≡ o.error = ap (λ (p : Outcome). p.error) is in
    let v : map node_tree found ≡ o.values =
    sym (append-nil (map node_tree found)) ∙ ap (λ (p : Outcome). p.values) is in
    ap (λ (vs : List Tree). ended vs (Some f)) v
    ∙ ap (λ (x : Option PathError). before_end o.values x q) e

module _ (t : Tree) (us all rest : List Tree) (first : all ≡ t ∷ rest) (is : us ≡ unwrapped Lax t)
  where
    split : (before : List Node)
        → found_then before (joined (gives us) (gives (all_unwrapped Lax rest)))
        ≡ found_then before (gives (all_unwrapped Lax all))
    split before =
        ap (λ ts. found_then before (gives (ts ++ all_unwrapped Lax rest))) is
        ∙ ap (λ ts. found_then before (gives (all_unwrapped Lax ts))) (sym first)

    pub unwrapped_on : (before found : List Node) (a : Unit {0}) (w : Outcome)
        → found_then before (gives (all_unwrapped Lax all)) ≡ w
        → Finds before found (Ok a) (gives us)
        → found_then found (gives (all_unwrapped Lax rest)) ≡ w
    unwrapped_on before found a w whole one =
        onward before found a (gives us) (gives (all_unwrapped Lax rest)) w
        (split before ∙ whole) one

    pub unwrapped_stops : (before found old : List Node) (x : WalkError) (o : Outcome)
        → found_then before (gives (all_unwrapped Lax all)) ≡ found_then old o
        → Finds before found (Err x) (gives us) → Finds old found (Err x) o
    unwrapped_stops before found old x o whole one =
        stopped before found old x (gives us) (gives (all_unwrapped Lax rest)) o
        (split before ∙ whole) one

pub unwrapped_end : (all : List Tree) → all ≡ [] → (found old : List Node) (a : Unit {0})
    (o : Outcome) → found_then found (gives (all_unwrapped Lax all)) ≡ found_then old o
    → Finds old found (Ok a) o
unwrapped_end all none found old a o whole =
    ap (λ ts. found_then found (gives (all_unwrapped Lax ts))) (sym none) ∙ whole

-- the same over a slice
pub lists_on : (xs : List Node) (x : Node) → 1 ≤ length xs → x ≡ get_or xs 0 x → (us : List Tree)
    → us ≡ unwrapped Lax (node_tree x) → (before found : List Node) (a : Unit {0}) (w : Outcome)
    → found_then before (gives (all_unwrapped Lax (map node_tree xs))) ≡ w
    → Finds before found (Ok a) (gives us)
    → found_then found (gives (all_unwrapped Lax (map node_tree (later xs)))) ≡ w
lists_on xs x any is us same before found a w whole one =
    unwrapped_on (node_tree x) us (map node_tree xs) (map node_tree (later xs))
    (ap (map node_tree) (first_left xs x any is)) same before found a w whole one

pub lists_stop : (xs : List Node) (x : Node) → 1 ≤ length xs → x ≡ get_or xs 0 x
    → (us : List Tree) → us ≡ unwrapped Lax (node_tree x) → (before found old : List Node)
    (e : WalkError) (o : Outcome)
    → found_then before (gives (all_unwrapped Lax (map node_tree xs))) ≡ found_then old o
    → Finds before found (Err e) (gives us) → Finds old found (Err e) o
lists_stop xs x any is us same before found old e o whole one =
    unwrapped_stops (node_tree x) us (map node_tree xs) (map node_tree (later xs))
    (ap (map node_tree) (first_left xs x any is)) same before found old e o whole one

pub lists_end : (xs : List Node) → length xs < 1 → (found old : List Node) (a : Unit {0})
    (o : Outcome) → found_then found (gives (all_unwrapped Lax (map node_tree xs)))
    ≡ found_then old o
    → Finds old found (Ok a) o
lists_end xs none found old a o whole =
    unwrapped_end (map node_tree xs) (ap (map node_tree) (nothing_left xs none)) found old a o whole

-- ---- indexes

within_32 : (z : ℤ) → FitsSigned w32 z → is_within 31 z ≡ true
within_32 z fits = grind (arith, lt-ltb)

cut_fits : (z i : ℤ) → FitsSigned w32 z → i ≡ z → Ok i ≡ cut z
cut_fits z i fits same =
    let e : is_within 31 z ≡ true = within_32 z fits in rw e (ap Ok same)

none_by : (z : ℤ) (b : Bool) → is_within 31 z ≡ b → (FitsSigned w32 z → ⊥)
    → Err errors.InvalidSubscript ≡ (if b then Ok z else Err errors.InvalidSubscript)
none_by z true e past = absurd (past (fits_within w32 z e))
none_by z false e past = refl

cut_fails : (z : ℤ) → (FitsSigned w32 z → ⊥) → Err errors.InvalidSubscript ≡ cut z
cut_fails z past = none_by z (is_within 31 z) refl past

one_is : (ts : List Tree) (x : Number) → Some x ≡ lone_number ts
    → cut (whole_part_of (fraction_of x)) ≡ one_index ts
one_is [] x is = absurd (cc)
one_is (number y ∷ []) x is =
    let same : x ≡ y = cc in ap (λ n. cut (whole_part_of (fraction_of n))) same
one_is (t ∷ []) x is = absurd (cc)
one_is (t ∷ u ∷ us) x is = absurd (cc)

pub index_there : (ts : List Tree) (x : Number) (i : ℤ) → Some x ≡ lone_number ts
    → FitsSigned w32 (whole_part_of (fraction_of x)) → i ≡ whole_part_of (fraction_of x)
    → Ok i ≡ one_index ts
index_there ts x i is fits same =
    cut_fits (whole_part_of (fraction_of x)) i fits same ∙ one_is ts x is

pub index_past : (ts : List Tree) (x : Number) → Some x ≡ lone_number ts
    → (FitsSigned w32 (whole_part_of (fraction_of x)) → ⊥)
    → Err errors.InvalidSubscript ≡ one_index ts
index_past ts x is past = cut_fails (whole_part_of (fraction_of x)) past ∙ one_is ts x is

pub index_missing : (ts : List Tree) → None ≡ lone_number ts
    → Err errors.InvalidSubscript ≡ one_index ts
index_missing [] is = refl
index_missing (number y ∷ []) is = absurd (cc)
index_missing (t ∷ []) is = refl
index_missing (number y ∷ u ∷ us) is = refl
index_missing (t ∷ u ∷ us) is = refl

-- ---- the end of a walk

-- nothing comes after
after_nothing : (vs : List Tree) (e : Option PathError)
    → before_end vs e (gives []) ≡ ended vs e
after_nothing vs None = ap (λ (us : List Tree). ended us None) (append-nil vs)
after_nothing vs (Some e) = refl

pub joined_nothing : (o : Outcome) → joined o (gives []) ≡ o
joined_nothing o = after_nothing o.values o.error

three_values : (vs us : List Tree) (e : Option PathError) (q : Outcome)
    → before_end vs None (before_end us e q) ≡ before_end (vs ++ us) e q
three_values vs us None q =
    ap (λ (ws : List Tree). ended ws q.error) (sym (append_assoc vs us q.values))
three_values vs us (Some e) q = refl

three_ends : (vs : List Tree) (e : Option PathError) (p q : Outcome)
    → before_end vs e (before_end p.values p.error q)
    ≡ before_end (before_end vs e p).values (before_end vs e p).error q
three_ends vs (Some e) p q = refl
three_ends vs None p q = three_values vs p.values p.error q

-- the end of a walk comes after it
pub each_end : (step : Tree → Outcome) (ts : List Tree) (end : Option PathError)
    → joined (each step ts None) (ended [] end) ≡ each step ts end
each_end step [] end = refl
each_end step (t ∷ ts) end =
    sym (three_ends (step t).values (step t).error (each step ts None) (ended [] end))
    ∙ ap (before_end (step t).values (step t).error) (each_end step ts end)

pub ruleset named_values = (member_there, member_missing)

pub ruleset all_pairs = (members_there, members_missing)

pub ruleset own_pairs = (names_there, own_there, none_own)

pub ruleset lone_numbers = (number_there, number_missing)

pub ruleset operations = (only_there, only_missing, joined_nothing)

pub ruleset ends_of_walks = (walk_ends, walk_fails)

pub ruleset walks = (step_on, step_stops, steps_end, value_on, value_stops, values_end)

pub ruleset slices = (slice_on, slice_stops, slice_end)

pub ruleset unwrapping = (strict_stays, joined_nothing, lists_on, lists_stop, lists_end)

pub ruleset indexes = (index_there, index_past, index_missing)
