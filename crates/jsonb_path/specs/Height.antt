-- How high a path is: in how many levels its expressions and tests stand in each other.
use Rattle.std.specs.Prelude.{ℕ, suc, max, nat_le, ◌&&◌, Bool, List, Option, None, Some}
use Rattle.std.specs.Prelude.{if◌then◌else◌}
use Rattle.jsonb_path.specs.declared.path.Mode.{Mode}
use Rattle.jsonb_path.specs.declared.path.Part.{Part}
use Rattle.jsonb_path.specs.PathParts.{PathParts, are_parts}
use Rattle.jsonb_path.specs.PathTree.{tree_of_parts}
use Rattle.jsonb_path.specs.Syntax.{Expression, Primary, Accessor, Accessors, Subscripts, Predicate}
use Rattle.jsonb_path.specs.Syntax as syntax

abbrev mutual
  -- An expression is one level higher than the highest that it is made of.
  pub height : Expression → ℕ
  height (syntax.chain p steps) = suc (max (primary_height p) (steps_height steps))
  height (syntax.signed sign e) = suc (height e)
  height (syntax.arithmetic op e f) = suc (max (height e) (height f))
  height (syntax.tested p) = test_height p

  -- What parentheses hold has a height, and no other beginning of a chain.
  pub primary_height : Primary → ℕ
  primary_height syntax.root = 0
  primary_height syntax.current = 0
  primary_height syntax.last = 0
  primary_height (syntax.literal t) = 0
  primary_height (syntax.variable name) = 0
  primary_height (syntax.inner e) = height e

  pub steps_height : Accessors → ℕ
  steps_height syntax.no_accessors = 0
  steps_height (syntax.accessor a steps) = max (step_height a) (steps_height steps)

  -- Subscripts and filters have a height, and no other accessor.
  pub step_height : Accessor → ℕ
  step_height (syntax.member name) = 0
  step_height syntax.all_members = 0
  step_height syntax.all_items = 0
  step_height (syntax.items_at subscripts) = subscripts_height subscripts
  step_height (syntax.descendants a b) = 0
  step_height (syntax.filter p) = test_height p
  step_height (syntax.method m) = 0

  pub subscripts_height : Subscripts → ℕ
  subscripts_height syntax.no_subscripts = 0
  subscripts_height (syntax.index e rest) = max (height e) (subscripts_height rest)
  subscripts_height (syntax.range e f rest) =
      max (height e) (max (height f) (subscripts_height rest))

  -- A test is one level higher too; what stands after `starts with` has no height of its own.
  pub test_height : Predicate → ℕ
  test_height (syntax.conjunction p q) = suc (max (test_height p) (test_height q))
  test_height (syntax.disjunction p q) = suc (max (test_height p) (test_height q))
  test_height (syntax.denial p) = suc (test_height p)
  test_height (syntax.is_unknown p) = suc (test_height p)
  test_height (syntax.comparison c e f) = suc (max (height e) (height f))
  test_height (syntax.starting e f) = suc (height e)
  test_height (syntax.exists e) = suc (height e)

-- A path is refused if it is higher.
abbrev pub most_levels : ℕ
most_levels = 400

abbrev pub is_low : Expression → Bool
is_low e = nat_le (height e) most_levels

-- The path of these parts, if they make one that is not higher.
abbrev pub made_of : Mode → List Part → Option PathParts
made_of mode ps = if are_parts ps && is_low (tree_of_parts ps)
    then Some (record { mode = mode; parts = ps }) else None
