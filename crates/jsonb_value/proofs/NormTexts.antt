-- A tree and its normal form have the same text.
use Rattle.std.proofs.Common.{arith}
use Rattle.std.proofs.Common.{◌≡◌, refl}
use Rattle.jsonb_value.specs.declared.number.Number.{Number}
use Rattle.jsonb_value.specs.Tree.{Tree, null, boolean, number, text, extension, array, object}
use Rattle.jsonb_value.specs.Tree.{Trees, no_trees, tree, Pairs, no_pairs, pair}
use Rattle.jsonb_value.specs.Norm.{norm_number, norm, norms, norm_pairs}
use Rattle.jsonb_value.specs.Text.{Layout, inside, number_text}
use Rattle.jsonb_value.specs.Text.{laid_out, more_items, more_pairs}

number_text-norm : (x : Number) → number_text (norm_number x) ≡ number_text x
number_text-norm x = grind arith

mutual
  pub laid_out-norm : (l : Layout) (t : Tree) → laid_out l (norm t) ≡ laid_out l t
  laid_out-norm l null = refl
  laid_out-norm l (boolean b) = refl
  laid_out-norm l (number x) = number_text-norm x
  laid_out-norm l (text s) = refl
  laid_out-norm l (extension e) = refl
  laid_out-norm l (array no_trees) = refl
  laid_out-norm l (array (tree t ts)) =
      grind (arith, laid_out-norm (inside l) t, more_items-norm (inside l) ts)
  laid_out-norm l (object no_pairs) = refl
  laid_out-norm l (object (pair k t ps)) =
      grind (arith, laid_out-norm (inside l) t, more_pairs-norm (inside l) ps)

  more_items-norm : (l : Layout) (ts : Trees) → more_items l (norms ts) ≡ more_items l ts
  more_items-norm l no_trees = refl
  more_items-norm l (tree t ts) = grind (arith, laid_out-norm l t, more_items-norm l ts)

  more_pairs-norm : (l : Layout) (ps : Pairs) → more_pairs l (norm_pairs ps) ≡ more_pairs l ps
  more_pairs-norm l no_pairs = refl
  more_pairs-norm l (pair k t ps) =
      grind (arith, laid_out-norm l t, more_pairs-norm l ps)
