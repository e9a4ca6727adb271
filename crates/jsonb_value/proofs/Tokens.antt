-- A tree as a list of tokens, such that the order of the lists is the order of the trees. The order
-- of lists over a total order is total, so one induction over pairs of trees proves all three laws.
use Rattle.std.specs.Prelude.{ℕ, pos, Bool, false, List, [], ◌∷◌}
use Rattle.std.specs.declared.cmp.Ordering.{Ordering}
use Rattle.std.specs.Ordering.{nat_cmp, bool_cmp, on, then_cmp}
use Rattle.std.specs.Cmp.{IsTotalOrder, nat_cmp_total, bool_cmp_total}
use Rattle.std.specs.Cmp.Lexicographic.{slice_cmp, on_texts}
use Rattle.std.proofs.lemmas.Cmp.{on_total, then_total}
use Rattle.jsonb_value.specs.declared.number.Number.{Number}
use Rattle.jsonb_value.specs.declared.number.Number.TheVariants.{Int64}
use Rattle.jsonb_value.specs.Order.{number_cmp, extension_cmp}
use Rattle.jsonb_value.proofs.NumberLaws.{number_cmp_total}
use Rattle.jsonb_value.proofs.ExtensionLaws.{extension_cmp_total}
use Rattle.jsonb_value.specs.Tree.{Extension, binary, Tree, Trees, Pairs, null, array, object, text}
use Rattle.jsonb_value.specs.Tree.{number, boolean, extension, no_trees, tree, no_pairs, pair}

-- a rank, and the content of a leaf
pub record Token : Type 0 where
  pub rank : ℕ
  pub truth : Bool
  pub number : Number
  pub bytes : List ℕ
  pub extension : Extension

-- a token without content
abbrev pub mark : ℕ → Token
mark rank =
    record { rank = rank; truth = false; number = Int64 (pos 0); bytes = []; extension = binary [] }

-- less than the first token of every tree
abbrev pub closing : Token
closing = mark 0

abbrev pub token_cmp : Token → Token → Ordering
token_cmp =
    then_cmp (on (λ t. t.rank) nat_cmp)
    (then_cmp (on (λ t. t.truth) bool_cmp)
    (then_cmp (on (λ t. t.number) number_cmp)
    (then_cmp (on (λ t. t.bytes) (slice_cmp nat_cmp)) (on (λ t. t.extension) extension_cmp))))

pub token_cmp_total : IsTotalOrder token_cmp
token_cmp_total =
    then_total (on_total (λ t. t.rank) nat_cmp_total)
    (then_total (on_total (λ t. t.truth) bool_cmp_total)
    (then_total (on_total (λ t. t.number) number_cmp_total)
    (then_total (on_texts (λ t. t.bytes)) (on_total (λ t. t.extension) extension_cmp_total))))

-- the tokens of a tree, followed by the rest
abbrev mutual
  pub tokens : Tree → List Token → List Token
  tokens (extension e) rest = record (mark 1) { extension = e } ∷ rest
  tokens (boolean b) rest = record (mark 2) { truth = b } ∷ rest
  tokens (number n) rest = record (mark 3) { number = n } ∷ rest
  tokens (text bytes) rest = record (mark 4) { bytes = bytes } ∷ rest
  tokens (object pairs) rest = mark 5 ∷ pair_tokens pairs rest
  tokens (array trees) rest = mark 6 ∷ item_tokens trees rest
  tokens null rest = mark 7 ∷ rest

  pub item_tokens : Trees → List Token → List Token
  item_tokens no_trees rest = closing ∷ rest
  item_tokens (tree x xs) rest = tokens x (item_tokens xs rest)

  pub pair_tokens : Pairs → List Token → List Token
  pair_tokens no_pairs rest = closing ∷ rest
  pair_tokens (pair key x ps) rest =
      record (mark 4) { bytes = key } ∷ tokens x (pair_tokens ps rest)
