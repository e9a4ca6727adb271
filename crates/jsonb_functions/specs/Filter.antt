-- The conditions on values by which paths leave out values.
use Rattle.std.specs.Prelude.{ℕ, zero, suc, List, [], ◌∷◌, Bool, true, false, not}
use Rattle.std.specs.Prelude.{if◌then◌else◌, Option, None, Some, is_some}
use Rattle.std.specs.Ordering.{is_eq, is_ge, is_gt, is_le, is_lt, is_ne}
use Rattle.std.specs.declared.cmp.Ordering.{Ordering}
use Rattle.jsonb_value.specs.Tree.{Tree}
use Rattle.jsonb_value.specs.TreeOrder.{tree_cmp}
use Rattle.jsonb.specs.Node.{node_tree}
use Rattle.jsonb_functions.specs.declared.filter.Comparison.{Comparison}
use Rattle.jsonb_functions.specs.declared.filter.Comparison.TheVariants as comparisons
use Rattle.jsonb_functions.specs.declared.filter.Condition.{Condition}
use Rattle.jsonb_functions.specs.declared.filter.Term.{Term}
use Rattle.jsonb_functions.specs.declared.filter.Term.TheVariants as terms
use Rattle.jsonb_functions.specs.declared.filter.Test.{Test}
use Rattle.jsonb_functions.specs.declared.filter.Verdict.{Verdict}
use Rattle.jsonb_functions.specs.declared.path.Step.{Step}
use Rattle.jsonb_functions.specs.Found.{found_at}

-- Whether trees in this order compare so.
abbrev pub compares : Comparison → Ordering → Bool
compares comparisons.Equal o = is_eq o
compares comparisons.NotEqual o = is_ne o
compares comparisons.Less o = is_lt o
compares comparisons.LessOrEqual o = is_le o
compares comparisons.Greater o = is_gt o
compares comparisons.GreaterOrEqual o = is_ge o

-- Whether a tree compares so with another one. Nothing compares so with any.
abbrev pub found_compares : Comparison → Option Tree → Tree → Bool
found_compares comparison None u = false
found_compares comparison (Some t) u = compares comparison (tree_cmp t u)

-- Whether a tree passes a test: what is at the end of its path compares so with its value.
abbrev pub passes : Test → Tree → Bool
passes test t =
    found_compares test.comparison (found_at test.path.items t) (node_tree test.value)

-- Whether a path leads from a tree to one.
abbrev pub leads : List Step → Tree → Bool
leads path t = is_some (found_at path t)

abbrev pub verdict : Bool → ℕ → Verdict
verdict b n = record { holds = b; passing = n }

-- The verdict with one more term before those that were read.
abbrev pub before_test : Bool → Verdict → ℕ → Verdict
before_test b v zero = verdict b 0
before_test b v (suc n) = v

abbrev pub before_and : Bool → ℕ → Verdict
before_and false zero = verdict false 1
before_and b n = verdict b n

abbrev pub before_or : Bool → ℕ → Verdict
before_or true zero = verdict true 1
before_or false (suc zero) = verdict false 0
before_or b n = verdict b n

abbrev pub before_close : Bool → ℕ → Verdict
before_close b zero = verdict b 0
before_close b (suc n) = verdict b (suc (suc n))

abbrev pub before_open : Bool → ℕ → Bool → Verdict
before_open b zero value = verdict value 0
before_open b (suc zero) value = verdict value 0
before_open b (suc (suc n)) value = verdict b (suc n)

abbrev pub after_open : Verdict → Bool → Verdict
after_open v value = before_open v.holds v.passing value

abbrev pub after_term : Tree → Term → Verdict → Verdict
after_term t (terms.Test test) v = before_test (passes test t) v v.passing
after_term t (terms.Exists path) v = before_test (leads path.items t) v v.passing
after_term t (terms.NotExists path) v = before_test (not (leads path.items t)) v v.passing
after_term t terms.And v = before_and v.holds v.passing
after_term t terms.Or v = before_or v.holds v.passing
after_term t terms.Open v = after_open v v.holds
after_term t terms.OpenNot v = after_open v (not v.holds)
after_term t terms.Close v = before_close v.holds v.passing

-- What terms come to, read from their end, where those after them came to a verdict.
abbrev pub verdict_before : Tree → Verdict → List Term → Verdict
verdict_before t v [] = v
verdict_before t v (term ∷ ts) = after_term t term (verdict_before t v ts)

abbrev pub verdict_of : Tree → List Term → Verdict
verdict_of t ts = verdict_before t (verdict false 0) ts

-- Whether a condition holds.
abbrev pub holds : Condition → Tree → Bool
holds condition t = (verdict_of t condition.terms.items).holds

-- The tree itself if a condition on it holds.
abbrev pub filtered : Condition → Tree → List Tree
filtered condition t = if holds condition t then t ∷ [] else []
