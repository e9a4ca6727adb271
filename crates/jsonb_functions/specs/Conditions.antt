-- Conditions by what they are made of, as they are written as terms, and when they hold.
use Rattle.std.specs.Prelude.{List, [], ◌∷◌, ◌++◌, Bool, not, ◌&&◌, ◌||◌}
use Rattle.std.specs.Global.{Vec}
use Rattle.jsonb_value.specs.Tree.{Tree}
use Rattle.jsonb_functions.specs.declared.filter.Term.{Term}
use Rattle.jsonb_functions.specs.declared.filter.Term.TheVariants as terms
use Rattle.jsonb_functions.specs.declared.filter.Test.{Test}
use Rattle.jsonb_functions.specs.declared.path.Step.{Step}
use Rattle.jsonb_functions.specs.Filter.{leads, passes}

-- One or more parts of which any is to hold, each of one or more of which all are to hold: a test,
-- a path that is to lead to a value or is not to, or a group, which may be turned.
mutual
  pub data AnyOf : Type 0 where
    one_of : AllOf → AnyOf
    some_of : AllOf → AnyOf → AnyOf

  pub data AllOf : Type 0 where
    all_of_one : Single → AllOf
    all_of : Single → AllOf → AllOf

  pub data Single : Type 0 where
    tests : Test → Single
    finds : Vec Step → Single
    finds_none : Vec Step → Single
    group : AnyOf → Single
    turned : AnyOf → Single

-- As terms: `&&` stands between those of which all are to hold, `||` between those of which any is.
abbrev mutual
  pub any_terms : AnyOf → List Term
  any_terms (one_of a) = all_terms a
  any_terms (some_of a more) = all_terms a ++ (terms.Or ∷ any_terms more)

  pub all_terms : AllOf → List Term
  all_terms (all_of_one s) = single_terms s
  all_terms (all_of s more) = single_terms s ++ (terms.And ∷ all_terms more)

  pub single_terms : Single → List Term
  single_terms (tests test) = terms.Test test ∷ []
  single_terms (finds path) = terms.Exists path ∷ []
  single_terms (finds_none path) = terms.NotExists path ∷ []
  single_terms (group a) = terms.Open ∷ (any_terms a ++ (terms.Close ∷ []))
  single_terms (turned a) = terms.OpenNot ∷ (any_terms a ++ (terms.Close ∷ []))

-- Whether a tree meets them.
abbrev mutual
  pub meets_any : AnyOf → Tree → Bool
  meets_any (one_of a) t = meets_all a t
  meets_any (some_of a more) t = meets_all a t || meets_any more t

  pub meets_all : AllOf → Tree → Bool
  meets_all (all_of_one s) t = meets_single s t
  meets_all (all_of s more) t = meets_single s t && meets_all more t

  pub meets_single : Single → Tree → Bool
  meets_single (tests test) t = passes test t
  meets_single (finds path) t = leads path.items t
  meets_single (finds_none path) t = not (leads path.items t)
  meets_single (group a) t = meets_any a t
  meets_single (turned a) t = not (meets_any a t)
