-- How high parts are, one part after the other.
use Rattle.std.proofs.Common.{◌≡◌, ℕ, suc, ◌-◌, ◌<◌, ◌≤◌, Bool, true, false, List, ◌∙◌}
use Rattle.std.proofs.Common.{⊎_elim, ap, arith, get_or, length, max, refl, sym}
use Rattle.std.specs.Prelude.{◌&&◌, IsTrue, Option, None, Some, nat_le}
use Rattle.std.proofs.lemmas.Bool.{le-leb, lt-leb}
use Rattle.std.proofs.lemmas.Bool.Decides.{leb_tells}
use Rattle.jsonb_path.specs.declared.path.Accessor.{Accessor}
use Rattle.jsonb_path.specs.declared.path.Part.{Part}
use Rattle.jsonb_path.specs.declared.path.Subscript.{Subscript}
use Rattle.jsonb_path.specs.Height.{height, step_height, steps_height, subscripts_height}
use Rattle.jsonb_path.specs.Height.{test_height}
use Rattle.jsonb_path.specs.PathParts.{is_test}
use Rattle.jsonb_path.specs.PathTree.{PathNode, accessor_of, accessors_of, as_expression}
use Rattle.jsonb_path.specs.PathTree.{expression_at, nodes_of, subscripts_of}
use Rattle.jsonb_path.specs.PathTree.{subscript_onto, test_at}
use Rattle.jsonb_path.specs.Syntax.{Subscripts, no_subscripts}
use Rattle.jsonb_path.proofs.FollowLaws.{front_of, part_expression}
use Rattle.jsonb_path.proofs.PathTextLaws.{first_left, later}
use Rattle.jsonb_path.proofs.PathTreeLaws.{expression_within, part_at, parts_before, test_stands}
use Rattle.jsonb_path.proofs.PathTreeLaws.{test_within}

-- ---- levels

by_le : (a n : ℕ) (b : Bool) → (a ≤ n → b ≡ true) → (n < a → b ≡ false) → nat_le a n ≡ b
by_le a n b low high =
    ⊎_elim (λ h. h.0 ∙ sym (low h.1)) (λ h. h.0 ∙ sym (high h.1)) (leb_tells a n)

-- the higher of two is low if both are
pub both_low : (a b n : ℕ) → nat_le (max a b) n ≡ (nat_le a n && nat_le b n)
both_low a b n =
    by_le (max a b) n (nat_le a n && nat_le b n)
    (λ h. let x : a ≤ n = omega arith in
    let y : b ≤ n = omega arith in λ i. le-leb a n x i && le-leb b n y i)
    (λ h. ⊎_elim
    (λ k. let x : a ≤ n = k.1 in
    let y : n < b = omega arith in λ i. k.0 i && lt-leb b n y i)
    (λ k. λ i. k.0 i && nat_le b n) (leb_tells a n))

pub zero_low : (n : ℕ) → nat_le 0 n ≡ true
zero_low n = le-leb 0 n (omega arith)

alone_low : (a n : ℕ) → nat_le a n ≡ nat_le (max a 0) n
alone_low a n =
    by_le a n (nat_le (max a 0) n) (λ h. le-leb (max a 0) n (omega arith))
    (λ h. lt-leb (max a 0) n (omega arith))

pub none_low : (a n : ℕ) → n ≡ 0 → nat_le (suc a) n ≡ false
none_low a n e = lt-leb (suc a) n (omega arith)

-- one level less
pub one_less : (a n : ℕ) → 0 < n → nat_le (suc a) n ≡ nat_le a (n - 1)
one_less a n h =
    by_le (suc a) n (nat_le a (n - 1)) (λ k. le-leb a (n - 1) (omega arith))
    (λ k. lt-leb a (n - 1) (omega arith))

pub both_less : (a b n : ℕ) → 0 < n
    → nat_le (suc (max a b)) n ≡ (nat_le a (n - 1) && nat_le b (n - 1))
both_less a b n h = one_less (max a b) n h ∙ both_low a b (n - 1)

and_assoc : (a b c : Bool) → (a && (b && c)) ≡ ((a && b) && c)
and_assoc true b c = refl
and_assoc false b c = refl

-- a test is as high as a value as it is as a test
pub test_as_high : (ps : List Part) (i : ℕ) → IsTrue (is_test ps i)
    → height (expression_at (nodes_of ps) i) ≡ test_height (test_at (nodes_of ps) i)
test_as_high ps i h = ap (λ x. height (as_expression x)) (test_stands ps i h)

-- a subscript alone
pub subscript_low : (nodes : List PathNode) (i : ℕ) (o : Option ℕ) (n : ℕ) (rest : Subscripts)
    → nat_le (subscripts_height (subscript_onto nodes i o rest)) n
    ≡ (nat_le (subscripts_height (subscript_onto nodes i o no_subscripts)) n
    && nat_le (subscripts_height rest) n)
subscript_low nodes i None n rest =
    let a = height (expression_at nodes i) in
    both_low a (subscripts_height rest) n
    ∙ ap (λ b. b && nat_le (subscripts_height rest) n) (alone_low a n)
subscript_low nodes i (Some j) n rest =
    let a = height (expression_at nodes i) in
    let b = height (expression_at nodes j) in
    let r = subscripts_height rest in
    both_low a (max b r) n
    ∙ ap (λ c. nat_le a n && c) (both_low b r n)
    ∙ and_assoc (nat_le a n) (nat_le b n) (nat_le r n)
    ∙ ap (λ c. (nat_le a n && c) && nat_le r n) (alone_low b n)
    ∙ ap (λ c. c && nat_le r n) (sym (both_low a (max b 0) n))

-- ---- the first of several

pub along_step : (n : ℕ) (nodes : List PathNode) (xs : List Accessor) (x : Accessor)
    → 1 ≤ length xs → x ≡ get_or xs 0 x
    → nat_le (steps_height (accessors_of nodes xs)) n
    ≡ (nat_le (step_height (accessor_of nodes x)) n
    && nat_le (steps_height (accessors_of nodes (later xs))) n)
along_step n nodes xs x any is =
    ap (λ steps. nat_le (steps_height (accessors_of nodes steps)) n) (first_left xs x any is)
    ∙ both_low (step_height (accessor_of nodes x)) (steps_height (accessors_of nodes (later xs))) n

module _ (n : ℕ) (nodes : List PathNode) (xs : List Subscript) (d : Subscript)
    (r : Bool) (is : r ≡ nat_le (subscripts_height
    (subscript_onto nodes (get_or xs 0 d).first (get_or xs 0 d).last no_subscripts)) n)
    (any : 1 ≤ length xs) (whole : Bool)
    (all : whole ≡ nat_le (subscripts_height (subscripts_of nodes xs)) n) where
  pub select_step : whole ≡ (r && nat_le (subscripts_height (subscripts_of nodes (later xs))) n)
  select_step =
      all
      ∙ ap (λ ss. nat_le (subscripts_height (subscripts_of nodes ss)) n) (front_of xs d any)
      ∙ subscript_low nodes (get_or xs 0 d).first (get_or xs 0 d).last n
      (subscripts_of nodes (later xs))
      ∙ ap (λ b. b && nat_le (subscripts_height (subscripts_of nodes (later xs))) n) (sym is)

  pub select_fails : r ≡ false → false ≡ whole
  select_fails e =
      sym (select_step
      ∙ ap (λ b. b && nat_le (subscripts_height (subscripts_of nodes (later xs))) n) e)

  pub select_on : r ≡ true
      → whole ≡ nat_le (subscripts_height (subscripts_of nodes (later xs))) n
  select_on e =
      select_step
      ∙ ap (λ b. b && nat_le (subscripts_height (subscripts_of nodes (later xs))) n) e

pub ruleset heights = (
  both_low,
  none_low,
  one_less,
  both_less,
  test_as_high,
  subscript_low,
  part_expression,
  expression_within,
  test_within,
  part_at,
  parts_before,
)
