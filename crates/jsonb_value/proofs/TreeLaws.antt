-- The order of trees is total.
use Rattle.std.proofs.Common.{arith}
use Rattle.std.specs.Prelude.{◌≡◌, List, [], ◌∷◌, refl}
use Rattle.std.proofs.Common.{subst}
use Rattle.std.specs.declared.cmp.Ordering.{Ordering}
use Rattle.std.specs.declared.cmp.Ordering.TheVariants.{Less, Equal, Greater}
use Rattle.std.specs.Ordering.{ordering_then}
use Rattle.std.specs.Cmp.{IsTotalOrder}
use Rattle.std.specs.Cmp.Lexicographic.{slice_cmp}
use Rattle.std.proofs.lemmas.Cmp.{on_total, lists_total}
use Rattle.jsonb_value.specs.Tree.{Tree, Trees, Pairs, null, array, object, text, number, boolean}
use Rattle.jsonb_value.specs.Tree.{extension, no_trees, tree, no_pairs, pair}
use Rattle.jsonb_value.specs.TreeOrder.{tree_cmp, trees_cmp, pairs_cmp}
use Rattle.jsonb_value.proofs.Tokens.{Token, closing, token_cmp, token_cmp_total, tokens}
use Rattle.jsonb_value.proofs.Tokens.{item_tokens, pair_tokens}

abbrev tokens_cmp : List Token → List Token → Ordering
tokens_cmp = slice_cmp token_cmp

pub then-Equal : (o : Ordering) → ordering_then o Equal ≡ o
then-Equal o = grind arith

pub then_assoc : (o p q : Ordering)
    → ordering_then (ordering_then o p) q ≡ ordering_then o (ordering_then p q)
then_assoc o p q = grind arith

-- a list that ends is less than one that continues
closing_below : (y : Tree) (r s : List Token) → tokens_cmp (closing ∷ r) (tokens y s) ≡ Less
closing_below null r s = refl
closing_below _ r s = refl

closing_above : (x : Tree) (r s : List Token) → tokens_cmp (tokens x r) (closing ∷ s) ≡ Greater
closing_above null r s = refl
closing_above _ r s = refl

-- the token lists compare as the trees, then as the rest
mutual
  tokens_in_order : (x y : Tree) (r s : List Token)
      → tokens_cmp (tokens x r) (tokens y s) ≡ ordering_then (tree_cmp x y) (tokens_cmp r s)
  tokens_in_order (extension d) (extension e) r s = refl
  tokens_in_order (boolean a) (boolean b) r s = grind (arith, then-Equal)
  tokens_in_order (number m) (number n) r s = grind (arith, then-Equal)
  tokens_in_order (text a) (text b) r s = grind (arith, then-Equal)
  tokens_in_order (object ps) (object qs) r s = pair_tokens_in_order ps qs r s
  tokens_in_order (array xs) (array ys) r s = item_tokens_in_order xs ys r s
  tokens_in_order null null r s = refl
  tokens_in_order x y r s = refl

  item_tokens_in_order : (xs ys : Trees) (r s : List Token)
      → tokens_cmp (item_tokens xs r) (item_tokens ys s)
      ≡ ordering_then (trees_cmp xs ys) (tokens_cmp r s)
  item_tokens_in_order no_trees no_trees r s = refl
  item_tokens_in_order no_trees (tree y ys) r s = closing_below y r (item_tokens ys s)
  item_tokens_in_order (tree x xs) no_trees r s = closing_above x (item_tokens xs r) s
  item_tokens_in_order (tree x xs) (tree y ys) r s =
      grind (
        arith,
        item_tokens,
        then_assoc,
        tokens_in_order x y (item_tokens xs r) (item_tokens ys s),
        item_tokens_in_order xs ys r s,
      )

  pair_tokens_in_order : (ps qs : Pairs) (r s : List Token)
      → tokens_cmp (pair_tokens ps r) (pair_tokens qs s)
      ≡ ordering_then (pairs_cmp ps qs) (tokens_cmp r s)
  pair_tokens_in_order no_pairs no_pairs r s = refl
  pair_tokens_in_order no_pairs (pair l y qs) r s = refl
  pair_tokens_in_order (pair k x ps) no_pairs r s = refl
  pair_tokens_in_order (pair k x ps) (pair l y qs) r s =
      grind (
        arith,
        tokens,
        pair_tokens,
        then-Equal,
        then_assoc,
        tokens_in_order x y (pair_tokens ps r) (pair_tokens qs s),
        pair_tokens_in_order ps qs r s,
      )

flat : Tree → List Token
flat x = tokens x []

flat_cmp : (x y : Tree) → tokens_cmp (flat x) (flat y) ≡ tree_cmp x y
unfolding flat
flat_cmp x y = grind (arith, tokens_in_order, then-Equal)

pub tree_cmp_total : IsTotalOrder tree_cmp
tree_cmp_total =
    subst IsTotalOrder (λ i x y. flat_cmp x y i) (on_total flat (lists_total token_cmp_total))
