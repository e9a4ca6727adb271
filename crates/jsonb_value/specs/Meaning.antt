-- What a byte string means, and the order of meanings.
use Rattle.std.specs.Prelude.{ℕ, List}
use Rattle.std.specs.declared.cmp.Ordering.{Ordering}
use Rattle.std.specs.declared.cmp.Ordering.TheVariants.{Less, Greater}
use Rattle.std.specs.Ordering.{nat_cmp}
use Rattle.std.specs.Cmp.Lexicographic.{slice_cmp}
use Rattle.jsonb_value.specs.Tree.{Tree}
use Rattle.jsonb_value.specs.TreeOrder.{tree_cmp}

-- The tree of a document, or bytes that are not a document.
pub data Meaning : Type 0 where
  document : Tree → Meaning
  other_bytes : List ℕ → Meaning

-- Documents compare as trees, other bytes compare as bytes, and every document is less than all
-- other bytes.
abbrev pub meaning_cmp : Meaning → Meaning → Ordering
meaning_cmp (document t) (document u) = tree_cmp t u
meaning_cmp (document t) (other_bytes b) = Less
meaning_cmp (other_bytes a) (document u) = Greater
meaning_cmp (other_bytes a) (other_bytes b) = slice_cmp nat_cmp a b
