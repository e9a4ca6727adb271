-- The keys of documents compare as the documents.
use Rattle.std.proofs.Common.{◌≡◌, ℕ, ◌<◌, ◌≤◌, ◌-◌, ◌+◌, List, [], ◌∷◌, ◌++◌, refl, arith}
use Rattle.std.specs.Prelude.{ℤ, pos, negsuc, suc, true, false}
use Rattle.std.specs.declared.cmp.Ordering.TheVariants.{Less, Equal, Greater}
use Rattle.std.specs.Ordering.{nat_cmp, ordering_then}
use Rattle.std.specs.Cmp.Lexicographic.{slice_cmp}
use Rattle.jsonb_value.specs.Order.{extension_kind, fraction_of}
use Rattle.jsonb_value.specs.Tree.{Tree, null, boolean, number, text, extension, array, object}
use Rattle.jsonb_value.specs.Tree.{Trees, no_trees, tree, Pairs, no_pairs, pair}
use Rattle.jsonb_value.specs.Tree.{Extension, binary, date, timestamp, timestamp_tz, interval}
use Rattle.jsonb_value.specs.Tree.{opaque}
use Rattle.jsonb_value.specs.TreeOrder.{rank_of, tree_cmp, trees_cmp, pairs_cmp}
use Rattle.jsonb_value.specs.WellFormed.{IsTree, AreTrees, ArePairs}
use Rattle.jsonb_comparable.specs.Escaped.{escaped}
use Rattle.jsonb_comparable.specs.NumberKey.{integer_key, scaled_value, complemented}
use Rattle.jsonb_comparable.specs.ExtensionKey.{fields_key}
use Rattle.jsonb_comparable.specs.TreeKey.{tree_key, trees_key, pairs_key}
use Rattle.jsonb_comparable.proofs.Comparing.{Compared, ended, same, below, above}
use Rattle.jsonb_comparable.proofs.Comparing.{first_as, joined}
use Rattle.jsonb_comparable.proofs.EscapedLaws.{escaped_begins, escaped_decides}
use Rattle.jsonb_comparable.proofs.ExtensionLaws.{extension_key_decides}
use Rattle.jsonb_comparable.proofs.NumberLaws.{natural_key_begins, number_key_decides}

-- between which bytes the first byte of a key lies
abbrev least_first : Tree → ℕ
least_first (extension e) = 16
least_first (boolean b) = 32
least_first (number x) = 106
least_first (text s) = 160
least_first (object ps) = 176
least_first (array ts) = 192
least_first null = 208

abbrev greatest_first : Tree → ℕ
greatest_first (extension e) = 21
greatest_first (boolean b) = 33
greatest_first (number x) = 149
greatest_first (text s) = 160
greatest_first (object ps) = 176
greatest_first (array ts) = 192
greatest_first null = 208

pub record Begins (least greatest : ℕ) (key : List ℕ) : Type 0 where
  pub first : ℕ
  pub others : List ℕ
  pub is : key ≡ first ∷ others
  pub at_least : least ≤ first
  pub at_most : first ≤ greatest

integer_begins : (z : ℤ) → Begins 106 149 (integer_key z)
integer_begins (pos n) =
    let begun = natural_key_begins n in
    record {
      first = begun.first;
      others = begun.others;
      is = begun.is;
      at_least = omega arith;
      at_most = omega arith;
    }
integer_begins (negsuc n) =
    let begun = natural_key_begins (suc n) in
    record {
      first = 255 - begun.first;
      others = complemented begun.others;
      is = rw begun.is refl;
      at_least = omega arith;
      at_most = omega arith;
    }

kind_at_most : (e : Extension) → extension_kind e ≤ 5
kind_at_most (binary a) = omega arith
kind_at_most (date a) = omega arith
kind_at_most (timestamp a) = omega arith
kind_at_most (timestamp_tz a) = omega arith
kind_at_most (interval a) = omega arith
kind_at_most (opaque tag a) = omega arith

begins : (t : Tree) → Begins (least_first t) (greatest_first t) (tree_key t)
unfolding tree_key
begins (extension e) =
    record {
      first = 16 + extension_kind e;
      others = fields_key e;
      is = refl;
      at_least = omega arith;
      at_most = omega (arith, kind_at_most e);
    }
begins (boolean true) =
    record { first = 33; others = []; is = refl; at_least = omega arith; at_most = omega arith }
begins (boolean false) =
    record { first = 32; others = []; is = refl; at_least = omega arith; at_most = omega arith }
begins (number x) = integer_begins (scaled_value (fraction_of x))
begins (text s) =
    record {
      first = 160;
      others = escaped s;
      is = refl;
      at_least = omega arith;
      at_most = omega
          arith;
    }
begins (object ps) =
    record {
      first = 176;
      others = pairs_key ps;
      is = refl;
      at_least = omega arith;
      at_most =
          omega arith;
    }
begins (array ts) =
    record {
      first = 192;
      others = trees_key ts;
      is = refl;
      at_least = omega arith;
      at_most =
          omega arith;
    }
begins null =
    record { first = 208; others = []; is = refl; at_least = omega arith; at_most = omega arith }

least_above_zero : (t : Tree) → 0 < least_first t
least_above_zero (extension e) = omega arith
least_above_zero (boolean b) = omega arith
least_above_zero (number x) = omega arith
least_above_zero (text s) = omega arith
least_above_zero (object ps) = omega arith
least_above_zero (array ts) = omega arith
least_above_zero null = omega arith

-- The first byte decides between values of different kinds.
kinds_decide : (t u : Tree)
    → (rank_of t < rank_of u → greatest_first t < least_first u)
    → (rank_of u < rank_of t → greatest_first u < least_first t)
    → (rank_of t ≡ rank_of u → ⊥)
    → Compared (tree_key t) (tree_key u) (ordering_then (nat_cmp (rank_of t) (rank_of u)) Equal)
kinds_decide t u less greater apart =
    let left = begins t in
    let right = begins u in
    rw (left.is, right.is)
    (first_as (rank_of t) (rank_of u) left.first right.first left.others right.others Equal
    (λ l. let gap : greatest_first t < least_first u = less l in omega arith)
    (λ l. let gap : greatest_first u < least_first t = greater l in omega arith)
    (λ e. absurd (apart e)))

-- The end byte is below the key of each value and of each pair.
end_below : (u : Tree) (b : List ℕ) → Compared (0 ∷ []) (tree_key u ++ b) Less
end_below u b =
    let begun = begins u in
    rw begun.is (below {x = 0} {y = begun.first} (omega (arith, least_above_zero u)))

end_above : (t : Tree) (a : List ℕ) → Compared (tree_key t ++ a) (0 ∷ []) Greater
end_above t a =
    let begun = begins t in
    rw begun.is (above {x = begun.first} {y = 0} (omega (arith, least_above_zero t)))

pair_end_below : (k b : List ℕ) → Compared (0 ∷ []) (escaped k ++ b) Less
pair_end_below k b =
    let begun = escaped_begins k in rw begun.is (below {x = 0} {y = begun.first} (omega arith))

pair_end_above : (k a : List ℕ) → Compared (escaped k ++ a) (0 ∷ []) Greater
pair_end_above k a =
    let begun = escaped_begins k in rw begun.is (above {x = begun.first} {y = 0} (omega arith))

-- Each key is below the bytes that are no document, and nothing is below it.
greatest_below_top : (t : Tree) → greatest_first t < 255
greatest_below_top (extension e) = omega arith
greatest_below_top (boolean b) = omega arith
greatest_below_top (number x) = omega arith
greatest_below_top (text s) = omega arith
greatest_below_top (object ps) = omega arith
greatest_below_top (array ts) = omega arith
greatest_below_top null = omega arith

pub key_below_top : (t : Tree) (b : List ℕ) → Compared (tree_key t) (255 ∷ b) Less
key_below_top t b =
    let begun = begins t in
    rw begun.is (below {x = begun.first} {y = 255} (omega (arith, greatest_below_top t)))

pub top_above_key : (t : Tree) (b : List ℕ) → Compared (255 ∷ b) (tree_key t) Greater
top_above_key t b =
    let begun = begins t in
    rw begun.is (above {x = 255} {y = begun.first} (omega (arith, greatest_below_top t)))

pub nothing_below_key : (t : Tree) (b : List ℕ) → slice_cmp nat_cmp [] (tree_key t ++ b) ≡ Less
nothing_below_key t b = rw (begins t).is refl

pub key_above_nothing : (t : Tree) (b : List ℕ)
    → slice_cmp nat_cmp (tree_key t ++ b) [] ≡ Greater
key_above_nothing t b = rw (begins t).is refl

-- The keys of trees, items and pairs have their order.
mutual
  unfolding tree_key

  pub tree_key_decides : (t u : Tree) → IsTree t → IsTree u
      → Compared (tree_key t) (tree_key u) (tree_cmp t u)
  tree_key_decides null null h g = same ended
  tree_key_decides (boolean true) (boolean true) h g = same ended
  tree_key_decides (boolean true) (boolean false) h g = above (omega arith)
  tree_key_decides (boolean false) (boolean true) h g = below (omega arith)
  tree_key_decides (boolean false) (boolean false) h g = same ended
  tree_key_decides (number x) (number y) h g = number_key_decides x y h g
  tree_key_decides (text s) (text r) h g = same (escaped_decides s r)
  tree_key_decides (extension d) (extension e) h g = extension_key_decides d e h g
  tree_key_decides (array ts) (array us) h g = same (trees_key_decide ts us h g)
  tree_key_decides (object ps) (object qs) h g = same (pairs_key_decide ps qs h.1 g.1)
  tree_key_decides t u h g =
      kinds_decide t u (λ l. omega arith) (λ l. omega arith) (λ e. absurd (omega arith))

  trees_key_decide : (ts us : Trees) → AreTrees ts → AreTrees us
      → Compared (trees_key ts) (trees_key us) (trees_cmp ts us)
  trees_key_decide no_trees no_trees h g = same ended
  trees_key_decide no_trees (tree u us) h g = end_below u (trees_key us)
  trees_key_decide (tree t ts) no_trees h g = end_above t (trees_key ts)
  trees_key_decide (tree t ts) (tree u us) h g =
      joined (tree_key_decides t u h.0 g.0) (trees_key_decide ts us h.1 g.1)

  pairs_key_decide : (ps qs : Pairs) → ArePairs ps → ArePairs qs
      → Compared (pairs_key ps) (pairs_key qs) (pairs_cmp ps qs)
  pairs_key_decide no_pairs no_pairs h g = same ended
  pairs_key_decide no_pairs (pair l u qs) h g = pair_end_below l (tree_key u ++ pairs_key qs)
  pairs_key_decide (pair k t ps) no_pairs h g = pair_end_above k (tree_key t ++ pairs_key ps)
  pairs_key_decide (pair k t ps) (pair l u qs) h g =
      joined (escaped_decides k l)
      (joined (tree_key_decides t u h.1.0 g.1.0) (pairs_key_decide ps qs h.1.1 g.1.1))
