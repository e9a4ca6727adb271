-- The variables that parts name, one part after the other.
use Rattle.std.proofs.Common.{◌≡◌, ℕ, Bool, true, false, List, [], ◌∷◌, ◌++◌, ◌∙◌, ◌≤◌, ap, get_or}
use Rattle.std.proofs.Common.{length, refl, sym}
use Rattle.std.specs.Prelude.{◌&&◌, IsTrue, Option, None, Some}
use Rattle.std.proofs.lemmas.List.{append-nil}
use Rattle.jsonb_value.specs.Tree.{Tree}
use Rattle.jsonb_path.specs.declared.path.Accessor.{Accessor}
use Rattle.jsonb_path.specs.declared.path.Part.{Part}
use Rattle.jsonb_path.specs.declared.path.Subscript.{Subscript}
use Rattle.jsonb_path.specs.Meaning.{all_given, is_given, names_access, names_along, names_in}
use Rattle.jsonb_path.specs.Meaning.{names_judged, names_select}
use Rattle.jsonb_path.specs.PathParts.{is_test}
use Rattle.jsonb_path.specs.PathTree.{PathNode, accessor_of, accessors_of, as_expression}
use Rattle.jsonb_path.specs.PathTree.{expression_at, nodes_of, subscripts_of}
use Rattle.jsonb_path.specs.PathTree.{subscript_onto, test_at}
use Rattle.jsonb_path.specs.Syntax.{Subscripts, no_subscripts}
use Rattle.jsonb_path.proofs.FollowLaws.{front_of, part_expression}
use Rattle.jsonb_path.proofs.PathTextLaws.{first_left, later, prefix_source}
use Rattle.jsonb_path.proofs.PathTreeLaws.{expression_within, part_at, parts_before, test_stands}
use Rattle.jsonb_path.proofs.PathTreeLaws.{test_within}

abbrev Variables : Type 0
Variables = List (List ℕ × Tree)

and_assoc : (a b c : Bool) → (a && (b && c)) ≡ ((a && b) && c)
and_assoc true b c = refl
and_assoc false b c = refl

pub all_both : (vs : Variables) (xs ys : List (List ℕ))
    → all_given vs (xs ++ ys) ≡ (all_given vs xs && all_given vs ys)
all_both vs [] ys = refl
all_both vs (x ∷ xs) ys =
    ap (λ b. is_given vs x && b) (all_both vs xs ys)
    ∙ and_assoc (is_given vs x) (all_given vs xs) (all_given vs ys)

-- a test names as a value what it names as a test
pub test_names : (ps : List Part) (i : ℕ) → IsTrue (is_test ps i)
    → names_in (expression_at (nodes_of ps) i) ≡ names_judged (test_at (nodes_of ps) i)
test_names ps i h = ap (λ x. names_in (as_expression x)) (test_stands ps i h)

pub first_names : (vs : Variables) (nodes : List PathNode) (i : ℕ) (o : Option ℕ)
    (rest : Subscripts) → all_given vs (names_select (subscript_onto nodes i o rest))
    ≡ (all_given vs (names_select (subscript_onto nodes i o no_subscripts))
    && all_given vs (names_select rest))
first_names vs nodes i None rest =
    let e = names_in (expression_at nodes i) in
    all_both vs e (names_select rest)
    ∙ ap (λ xs. all_given vs xs && all_given vs (names_select rest)) (sym (append-nil e))
first_names vs nodes i (Some j) rest =
    let e = names_in (expression_at nodes i) in
    let f = names_in (expression_at nodes j) in
    all_both vs e (f ++ names_select rest)
    ∙ ap (λ b. all_given vs e && b) (all_both vs f (names_select rest))
    ∙ and_assoc (all_given vs e) (all_given vs f) (all_given vs (names_select rest))
    ∙ ap (λ b. b && all_given vs (names_select rest)) (sym (all_both vs e f))
    ∙ ap (λ xs. all_given vs (e ++ xs) && all_given vs (names_select rest)) (sym (append-nil f))

-- ---- the first of several

pub along_step : (vs : Variables) (nodes : List PathNode) (xs : List Accessor) (x : Accessor)
    → 1 ≤ length xs → x ≡ get_or xs 0 x
    → all_given vs (names_along (accessors_of nodes xs))
    ≡ (all_given vs (names_access (accessor_of nodes x))
    && all_given vs (names_along (accessors_of nodes (later xs))))
along_step vs nodes xs x any is =
    ap (λ steps. all_given vs (names_along (accessors_of nodes steps))) (first_left xs x any is)
    ∙ all_both vs (names_access (accessor_of nodes x)) (names_along (accessors_of nodes (later xs)))

module _ (vs : Variables) (nodes : List PathNode) (xs : List Subscript) (d : Subscript)
    (r : Bool) (is : r ≡ all_given vs (names_select
    (subscript_onto nodes (get_or xs 0 d).first (get_or xs 0 d).last no_subscripts)))
    (any : 1 ≤ length xs) (whole : Bool)
    (all : whole ≡ all_given vs (names_select (subscripts_of nodes xs))) where
  pub select_step : whole ≡ (r && all_given vs (names_select (subscripts_of nodes (later xs))))
  select_step =
      all
      ∙ ap (λ ss. all_given vs (names_select (subscripts_of nodes ss))) (front_of xs d any)
      ∙ first_names vs nodes (get_or xs 0 d).first (get_or xs 0 d).last
      (subscripts_of nodes (later xs))
      ∙ ap (λ b. b && all_given vs (names_select (subscripts_of nodes (later xs)))) (sym is)

  pub select_fails : r ≡ false → false ≡ whole
  select_fails e =
      sym (select_step
      ∙ ap (λ b. b && all_given vs (names_select (subscripts_of nodes (later xs)))) e)

  pub select_on : r ≡ true → whole ≡ all_given vs (names_select (subscripts_of nodes (later xs)))
  select_on e =
      select_step
      ∙ ap (λ b. b && all_given vs (names_select (subscripts_of nodes (later xs)))) e

pub ruleset given_parts = (
  all_both,
  test_names,
  first_names,
  part_expression,
  prefix_source,
  expression_within,
  test_within,
  part_at,
  parts_before,
  append-nil,
)
