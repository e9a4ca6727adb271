-- A part, followed after the parts that it names.
use Rattle.std.proofs.Common.{◌≡◌, ℕ, ◌<◌, List, [], ◌∷◌, ◌∙◌, ◌≤◌, ap, arith, get_or, length, refl}
use Rattle.std.proofs.Common.{sym, take}
use Rattle.std.proofs.Common.{subst}
use Rattle.std.specs.Prelude.{IfOk, IsTrue, Option, None, Some, Result, Ok, Err}
use Rattle.std.specs.List.{list_all}
use Rattle.jsonb_value.proofs.Json.Tests.{and_true}
use Rattle.jsonb_value.specs.Tree.{Tree}
use Rattle.jsonb.specs.declared.node.Node.{Node}
use Rattle.jsonb_path.specs.declared.outcome.Outcome.{Outcome as Found}
use Rattle.jsonb_path.specs.declared.outcome.WalkError.{WalkError}
use Rattle.jsonb_path.specs.declared.path.Accessor.{Accessor}
use Rattle.jsonb_path.specs.declared.path.Part.{Part}
use Rattle.jsonb_path.specs.declared.path.Part.TheVariants as parts
use Rattle.jsonb_path.specs.declared.path.Subscript.{Subscript}
use Rattle.jsonb_path.specs.declared.path.Test.{Test}
use Rattle.jsonb_path.specs.Found.{Finds, found_then, outcome_of, selected_in}
use Rattle.jsonb_path.specs.Meaning.{Outcome, Place, follow, gives, index_in, items_between, joined}
use Rattle.jsonb_path.specs.Meaning.{access, along, past, select, through}
use Rattle.jsonb_path.specs.PathParts.{are_parts_after, is_accessor, is_part, is_subscript}
use Rattle.jsonb_path.specs.PathParts.{is_test_part}
use Rattle.jsonb_path.specs.Syntax.{Subscripts, no_subscripts}
use Rattle.jsonb_path.specs.PathTree.{accessor_of, accessors_of, as_expression, as_test}
use Rattle.jsonb_path.specs.PathTree.{expression_at, node_of, nodes_of}
use Rattle.jsonb_path.specs.PathTree.{PathNode, predicate_of, subscript_onto, subscripts_of}
use Rattle.jsonb_path.specs.PathTree.{test_at}
use Rattle.jsonb_path.proofs.FoundLaws.{each_end, joined_nothing, onward, slice_end, slice_stops}
use Rattle.jsonb_path.proofs.FoundLaws.{step_stops, steps_end, stopped}
use Rattle.jsonb_path.proofs.PathTextLaws.{first_left, later, prefix_source}
use Rattle.jsonb_path.proofs.PathTreeLaws.{expression_within, node_is, part_at, parts_before}
use Rattle.jsonb_path.proofs.PathTreeLaws.{test_within}

pub part_expression : (ps : List Part) (i : ℕ) (x : Part) → i < length ps → x ≡ get_or ps i x
    → as_expression (node_of (nodes_of (take i ps)) x) ≡ expression_at (nodes_of ps) i
part_expression ps i x h e = ap as_expression (sym (node_is ps i x h e))

pub part_test : (ps : List Part) (i : ℕ) (t : Test) → i < length ps
    → parts.Test t ≡ get_or ps i (parts.Test t)
    → predicate_of (nodes_of (take i ps)) t ≡ test_at (nodes_of ps) i
part_test ps i t h e = ap as_test (sym (node_is ps i (parts.Test t) h e))

pub test_part : (ps : List Part) (i : ℕ) (x : Part) (t : Test) → IsTrue (are_parts_after [] ps)
    → i < length ps → x ≡ get_or ps i x → x ≡ parts.Test t
    → IsTrue (is_test_part (take i ps) t)
test_part ps i x t h less e is =
    subst (λ p. IsTrue (is_part (take i ps) p)) is (part_at ps i x h less e)

-- ---- results

pub outcome_from : {E : Type 0} (r : Result Found E) (p q : Outcome)
    → IfOk r (λ o. outcome_of o ≡ p) → p ≡ q → IfOk r (λ o. outcome_of o ≡ q)
outcome_from (Ok o) p q is same = is ∙ same
outcome_from (Err e) p q is same = is

-- ---- accessors

-- one accessor, and then the others
pub along_on : (nodes : List PathNode) (xs : List Accessor) (x : Accessor) → 1 ≤ length xs
    → x ≡ get_or xs 0 x → (place next : Place) (o p w : Outcome)
    → next ≡ past place (accessor_of nodes x)
    → p ≡ through (access place (accessor_of nodes x)) o
    → along place (accessors_of nodes xs) o ≡ w
    → along next (accessors_of nodes (later xs)) p ≡ w
along_on nodes xs x any is place next o p w e f whole =
    (λ i. along (e i) (accessors_of nodes (later xs)) (f i))
    ∙ ap (λ steps. along place (accessors_of nodes steps) o) (sym (first_left xs x any is))
    ∙ whole

-- the first subscript, and those after it
pub front_of : (xs : List Subscript) (d : Subscript) → 1 ≤ length xs
    → xs ≡ get_or xs 0 d ∷ later xs
front_of [] d any = absurd (omega (arith, any))
front_of (y ∷ ys) d any = first_left (y ∷ ys) y any refl

pub subscripts_left : (ps : List Part) (xs : List Subscript) → 1 ≤ length xs
    → IsTrue (list_all (is_subscript ps) xs) → IsTrue (list_all (is_subscript ps) (later xs))
subscripts_left ps [] any all = absurd (omega (arith, any))
subscripts_left ps (y ∷ ys) any all =
    let both = and_true (is_subscript ps y) (list_all (is_subscript ps) (later (y ∷ ys)))
    (subst (λ ss. IsTrue (list_all (is_subscript ps) ss)) (first_left (y ∷ ys) y any refl) all) in
    both.1

pub accessors_left : (ps : List Part) (xs : List Accessor) (x : Accessor) → 1 ≤ length xs
    → x ≡ get_or xs 0 x → IsTrue (list_all (is_accessor ps) xs)
    → IsTrue (list_all (is_accessor ps) (later xs))
accessors_left ps xs x any is all =
    let split = first_left xs x any is in
    let both = and_true (is_accessor ps x) (list_all (is_accessor ps) (later xs))
    (subst (λ ss. IsTrue (list_all (is_accessor ps) ss)) split all) in
    both.1

-- the items of one subscript, and then those of the others
pub subscript_step : (place : Place) (nodes : List PathNode) (i : ℕ) (o : Option ℕ)
    (rest : Subscripts) (items : Option (List Tree))
    → joined (selected_in place (subscript_onto nodes i o no_subscripts) items)
    (selected_in place rest items)
    ≡ selected_in place (subscript_onto nodes i o rest) items
subscript_step place nodes i o rest None = refl
subscript_step place nodes i None rest (Some ts) =
    let at = index_in (follow place (expression_at nodes i)) in
    ap (λ p. joined p (select place rest ts))
    (joined_nothing (items_between place.forgives at at ts))
subscript_step place nodes i (Some j) rest (Some ts) =
    let at = index_in (follow place (expression_at nodes i)) in
    let to = index_in (follow place (expression_at nodes j)) in
    ap (λ p. joined p (select place rest ts))
    (joined_nothing (items_between place.forgives at to ts))

-- one subscript more
module _ (place : Place) (nodes : List PathNode) (s : Subscript) (all rest : List Subscript)
    (items : Option (List Tree)) (first : all ≡ s ∷ rest) where
  split : (before : List Node) → found_then before
      (joined (selected_in place (subscript_onto nodes s.first s.last no_subscripts) items)
      (selected_in place (subscripts_of nodes rest) items))
      ≡ found_then before (selected_in place (subscripts_of nodes all) items)
  split before =
      ap (found_then before)
      (subscript_step place nodes s.first s.last (subscripts_of nodes rest) items)
      ∙ ap (λ ss. found_then before (selected_in place (subscripts_of nodes ss) items)) (sym first)

  pub chosen_on : (before found : List Node) (a : Unit {0}) (w : Outcome)
      → found_then before (selected_in place (subscripts_of nodes all) items) ≡ w
      → Finds before found (Ok a)
      (selected_in place (subscript_onto nodes s.first s.last no_subscripts) items)
      → found_then found (selected_in place (subscripts_of nodes rest) items) ≡ w
  chosen_on before found a w whole is =
      onward before found a
      (selected_in place (subscript_onto nodes s.first s.last no_subscripts) items)
      (selected_in place (subscripts_of nodes rest) items) w (split before ∙ whole) is

  pub chosen_stops : (before found old : List Node) (x : WalkError) (o : Outcome)
      → found_then before (selected_in place (subscripts_of nodes all) items) ≡ found_then old o
      → Finds before found (Err x)
      (selected_in place (subscript_onto nodes s.first s.last no_subscripts) items)
      → Finds old found (Err x) o
  chosen_stops before found old x o whole is =
      stopped before found old x
      (selected_in place (subscript_onto nodes s.first s.last no_subscripts) items)
      (selected_in place (subscripts_of nodes rest) items) o (split before ∙ whole) is

pub chosen_slice : (place : Place) (nodes : List PathNode) (items : Option (List Tree))
    (xs : List Subscript) (d : Subscript) → 1 ≤ length xs → (before found old : List Node)
    (x : WalkError) (o : Outcome)
    → found_then before (selected_in place (subscripts_of nodes xs) items) ≡ found_then old o
    → Finds before found (Err x) (selected_in place
    (subscript_onto nodes (get_or xs 0 d).first (get_or xs 0 d).last no_subscripts) items)
    → Finds old found (Err x) o
chosen_slice place nodes items xs d any before found old x o whole is =
    chosen_stops place nodes (get_or xs 0 d) xs (later xs) items (front_of xs d any) before found
    old x o whole is

pub listed_slice : (place : Place) (nodes : List PathNode) (ts : List Tree) (xs : List Subscript)
    (d : Subscript) → 1 ≤ length xs → (before found old : List Node) (x : WalkError) (o : Outcome)
    → found_then before (select place (subscripts_of nodes xs) ts) ≡ found_then old o
    → Finds before found (Err x) (select place
    (subscript_onto nodes (get_or xs 0 d).first (get_or xs 0 d).last no_subscripts) ts)
    → Finds old found (Err x) o
listed_slice place nodes ts xs d any before found old x o whole is =
    chosen_slice place nodes (Some ts) xs d any before found old x o whole is

nothing_selected : (place : Place) (nodes : List PathNode) (items : Option (List Tree))
    → selected_in place (subscripts_of nodes []) items ≡ gives []
nothing_selected place nodes None = refl
nothing_selected place nodes (Some ts) = refl

pub chosen_end : (place : Place) (nodes : List PathNode) (all : List Subscript)
    (items : Option (List Tree)) → all ≡ [] → (found old : List Node) (a : Unit {0}) (o : Outcome)
    → found_then found (selected_in place (subscripts_of nodes all) items) ≡ found_then old o
    → Finds old found (Ok a) o
chosen_end place nodes all items none found old a o whole =
    ap (found_then found) (sym (nothing_selected place nodes items))
    ∙ ap (λ ss. found_then found (selected_in place (subscripts_of nodes ss) items)) (sym none)
    ∙ whole

pub ruleset parts_before_it = (
  part_expression,
  part_test,
  prefix_source,
  expression_within,
  test_within,
  part_at,
  parts_before,
  slice_stops,
  slice_end,
  step_stops,
  steps_end,
  chosen_slice,
  listed_slice,
  chosen_end,
  each_end,
)
