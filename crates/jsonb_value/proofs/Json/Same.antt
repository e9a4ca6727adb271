-- Trees that differ only in the kinds of numbers of equal value compare Equal.
use Rattle.std.proofs.Common.{arith}
use Rattle.std.proofs.Common.{◌≡◌, ◌≤◌, Bool, List, ℕ, length, refl, ap, ◌∙◌}
use Rattle.std.specs.Prelude.{⊤}
use Rattle.std.specs.declared.cmp.Ordering.{Ordering}
use Rattle.std.specs.declared.cmp.Ordering.TheVariants.{Equal}
use Rattle.std.specs.Ordering.{nat_cmp, bool_cmp, ordering_then}
use Rattle.std.specs.Cmp.Lexicographic.{slice_cmp, nat_list_cmp_total}
use Rattle.std.proofs.lemmas.Cmp.{tied_itself}
use Rattle.jsonb_value.specs.declared.number.Number.{Number}
use Rattle.jsonb_value.specs.NumCode.{number_payload}
use Rattle.jsonb_value.specs.Order.{fraction_of, number_cmp}
use Rattle.jsonb_value.specs.Tree.{Tree, null, boolean, number, text, array, object, Trees}
use Rattle.jsonb_value.specs.Tree.{no_trees, tree, Pairs, no_pairs, pair}
use Rattle.jsonb_value.specs.TreeOrder.{tree_cmp, trees_cmp, pairs_cmp}
use Rattle.jsonb_value.proofs.NumberLaws.{number_cmp_total}
use Rattle.jsonb_value.proofs.KindLaws.{tree_cmp-itself}

-- Two numbers of equal value, where the first has no longer payload.
pub record SameNumber (x y : Number) : Type 0 where
  pub worth : fraction_of x ≡ fraction_of y
  pub shorter : length (number_payload x) ≤ length (number_payload y)

-- Trees that are equal except for numbers related by `SameNumber`.
abbrev mutual
  pub IsSame : Tree → Tree → Type 0
  IsSame null null = ⊤
  IsSame (boolean a) (boolean b) = a ≡ b
  IsSame (number x) (number y) = SameNumber x y
  IsSame (text a) (text b) = a ≡ b
  IsSame (array ts) (array us) = AreSame ts us
  IsSame (object ps) (object qs) = PairsSame ps qs
  IsSame t u = ⊥

  pub AreSame : Trees → Trees → Type 0
  AreSame no_trees no_trees = ⊤
  AreSame (tree t ts) (tree u us) = IsSame t u × AreSame ts us
  AreSame ts us = ⊥

  pub PairsSame : Pairs → Pairs → Type 0
  PairsSame no_pairs no_pairs = ⊤
  PairsSame (pair k t ps) (pair l u qs) = (k ≡ l) × (IsSame t u × PairsSame ps qs)
  PairsSame ps qs = ⊥

same_worth : (x y : Number) → fraction_of x ≡ fraction_of y → number_cmp x y ≡ Equal
same_worth x y e = grind (arith, tied_itself, number_cmp_total)

same_bytes : (x y : List ℕ) → x ≡ y → slice_cmp nat_cmp x y ≡ Equal
same_bytes x y e = ap (λ (z : List ℕ). slice_cmp nat_cmp z y) e ∙ tied_itself nat_list_cmp_total y

both_equal : (a b : Ordering) → a ≡ Equal → b ≡ Equal → ordering_then a b ≡ Equal
both_equal a b e h = ap (λ o. ordering_then o b) e ∙ h

mutual
  pub tree_cmp-IsSame : (t u : Tree) → IsSame t u → tree_cmp t u ≡ Equal
  tree_cmp-IsSame null null e = refl
  tree_cmp-IsSame (boolean a) (boolean b) e =
      ap (λ (c : Bool). bool_cmp c b) e ∙ tree_cmp-itself (boolean b)
  tree_cmp-IsSame (number x) (number y) e = same_worth x y e.worth
  tree_cmp-IsSame (text a) (text b) e = same_bytes a b e
  tree_cmp-IsSame (array ts) (array us) e = trees_cmp-AreSame ts us e
  tree_cmp-IsSame (object ps) (object qs) e = pairs_cmp-PairsSame ps qs e
  tree_cmp-IsSame t u e = absurd e

  trees_cmp-AreSame : (ts us : Trees) → AreSame ts us → trees_cmp ts us ≡ Equal
  trees_cmp-AreSame no_trees no_trees e = refl
  trees_cmp-AreSame (tree t ts) (tree u us) e =
      both_equal _ _ (tree_cmp-IsSame t u e.0) (trees_cmp-AreSame ts us e.1)
  trees_cmp-AreSame ts us e = absurd e

  pairs_cmp-PairsSame : (ps qs : Pairs) → PairsSame ps qs → pairs_cmp ps qs ≡ Equal
  pairs_cmp-PairsSame no_pairs no_pairs e = refl
  pairs_cmp-PairsSame (pair k t ps) (pair l u qs) e = both_equal _ _ (same_bytes k l e.0)
      (both_equal _ _ (tree_cmp-IsSame t u e.1.0) (pairs_cmp-PairsSame ps qs e.1.1))
  pairs_cmp-PairsSame ps qs e = absurd e
