-- Trees of different kinds compare by kind, and signed and unsigned zeros compare alike.
use Rattle.std.proofs.Common.{arith}
use Rattle.std.specs.Prelude.{◌≡◌, ◌≢◌, refl}
use Rattle.std.specs.declared.cmp.Ordering.TheVariants.{Equal}
use Rattle.std.specs.Ordering.{nat_cmp, ordering_then}
use Rattle.std.specs.Cmp.Lexicographic.{nat_list_cmp_total}
use Rattle.std.proofs.lemmas.Cmp.{tied_itself, alike_right}
use Rattle.jsonb_value.specs.declared.number.Number.{Number}
use Rattle.jsonb_value.specs.Order.{number_cmp}
use Rattle.jsonb_value.specs.Tree.{Tree, number, array, object}
use Rattle.jsonb_value.specs.Tree.{Trees, no_trees, tree, Pairs, no_pairs, pair}
use Rattle.jsonb_value.specs.TreeOrder.{rank_of, tree_cmp, trees_cmp, pairs_cmp}
use Rattle.jsonb_value.specs.Norm.{norm_number, norm, norms, norm_pairs}
use Rattle.jsonb_value.proofs.NumberLaws.{number_cmp_total}
use Rattle.jsonb_value.proofs.TreeLaws.{tree_cmp_total}

pub tree_cmp-itself : (t : Tree) → tree_cmp t t ≡ Equal
tree_cmp-itself t = tied_itself tree_cmp_total t

pub tree_cmp-by_rank : (t u : Tree) → rank_of t ≢ rank_of u
    → tree_cmp t u ≡ nat_cmp (rank_of t) (rank_of u)
tree_cmp-by_rank t u h = grind arith

norm_number_tied : (x : Number) → number_cmp (norm_number x) x ≡ Equal
norm_number_tied x = grind (arith, tied_itself, number_cmp_total)

mutual
  pub norm_tied : (t : Tree) → tree_cmp (norm t) t ≡ Equal
  norm_tied (number x) = norm_number_tied x
  norm_tied (array ts) = norms_tied ts
  norm_tied (object ps) = norm_pairs_tied ps
  norm_tied t = tree_cmp-itself t

  norms_tied : (ts : Trees) → trees_cmp (norms ts) ts ≡ Equal
  norms_tied no_trees = refl
  norms_tied (tree t ts) = λ i. ordering_then (norm_tied t i) (norms_tied ts i)

  norm_pairs_tied : (ps : Pairs) → pairs_cmp (norm_pairs ps) ps ≡ Equal
  norm_pairs_tied no_pairs = refl
  norm_pairs_tied (pair k t ps) = λ i. ordering_then (tied_itself nat_list_cmp_total k i)
      (ordering_then (norm_tied t i) (norm_pairs_tied ps i))

pub tree_cmp-norm : (t u : Tree) → tree_cmp (norm t) u ≡ tree_cmp t u
tree_cmp-norm t u = tree_cmp_total.congr (norm t) t u (norm_tied t)

pub tree_cmp-right_norm : (t u : Tree) → tree_cmp t (norm u) ≡ tree_cmp t u
tree_cmp-right_norm t u = alike_right tree_cmp_total (norm u) u t (norm_tied u)
