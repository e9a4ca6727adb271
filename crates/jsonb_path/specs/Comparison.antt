-- How two values compare in a path, and the three truths.
use Rattle.std.specs.Prelude.{ℕ, List, Bool, true, false, nat_eq}
use Rattle.std.specs.Ordering.{bool_cmp, nat_cmp, is_eq, is_ne, is_lt, is_le, is_gt, is_ge}
use Rattle.std.specs.Cmp.Lexicographic.{slice_cmp}
use Rattle.std.specs.List.{starts_with as begins_with}
use Rattle.std.specs.declared.cmp.Ordering.{Ordering}
use Rattle.std.specs.declared.cmp.Ordering.TheVariants as orders
use Rattle.jsonb_value.specs.declared.number.Number.{Number}
use Rattle.jsonb_value.specs.Order.{number_cmp}
use Rattle.jsonb_value.specs.Tree as trees
use Rattle.jsonb_path.specs.declared.compare.Comparison.{Comparison}
use Rattle.jsonb_path.specs.declared.compare.Comparison.TheVariants.{Equal, NotEqual, Less}
use Rattle.jsonb_path.specs.declared.compare.Comparison.TheVariants.{LessOrEqual, Greater}
use Rattle.jsonb_path.specs.declared.compare.Comparison.TheVariants.{GreaterOrEqual}
use Rattle.jsonb_path.specs.declared.compare.Scalar.{Scalar}
use Rattle.jsonb_path.specs.declared.compare.Scalar.TheVariants as scalars
use Rattle.jsonb_path.specs.declared.compare.Truth.{Truth}
use Rattle.jsonb_path.specs.declared.compare.Truth.TheVariants.{True, False, Unknown}

abbrev pub truth_of : Bool → Truth
truth_of true = True
truth_of false = False

-- False if either is, and otherwise unknown if either is.
abbrev pub both : Truth → Truth → Truth
both True t = t
both False t = False
both Unknown True = Unknown
both Unknown False = False
both Unknown Unknown = Unknown

-- True if either is, and otherwise unknown if either is.
abbrev pub either : Truth → Truth → Truth
either True t = True
either False t = t
either Unknown True = True
either Unknown False = Unknown
either Unknown Unknown = Unknown

-- The other truth; unknown stays.
abbrev pub negation : Truth → Truth
negation True = False
negation False = True
negation Unknown = Unknown

-- Whether the truth is unknown.
abbrev pub unknown : Truth → Truth
unknown True = False
unknown False = False
unknown Unknown = True

-- Values in this order compare so.
abbrev pub holds : Comparison → Ordering → Bool
holds Equal o = is_eq o
holds NotEqual o = is_ne o
holds Less o = is_lt o
holds LessOrEqual o = is_le o
holds Greater o = is_gt o
holds GreaterOrEqual o = is_ge o

-- A value as comparisons see it: a text is its bytes, whose order is that of its code points.
pub data Comparand : Type 0 where
  null : Comparand
  boolean : Bool → Comparand
  number : Number → Comparand
  text : List ℕ → Comparand
  other : Comparand

-- An array, an object or an extension value compares with nothing but null.
abbrev pub comparand_of : trees.Tree → Comparand
comparand_of trees.null = null
comparand_of (trees.boolean b) = boolean b
comparand_of (trees.number x) = number x
comparand_of (trees.text s) = text s
comparand_of (trees.extension e) = other
comparand_of (trees.array ts) = other
comparand_of (trees.object ps) = other

abbrev pub comparand : Scalar → Comparand
comparand scalars.Null = null
comparand (scalars.Bool b) = boolean b
comparand (scalars.Number x) = number x
comparand (scalars.Text s) = text s.now
comparand scalars.Other = other

-- The comparison is `!=`.
abbrev pub is_not_equal : Comparison → Bool
is_not_equal NotEqual = true
is_not_equal c = false

-- How two values compare. Null equals null and differs from all others; other kinds do not compare.
abbrev pub compares : Comparison → Comparand → Comparand → Truth
compares c null null = truth_of (holds c orders.Equal)
compares c null v = truth_of (is_not_equal c)
compares c v null = truth_of (is_not_equal c)
compares c (boolean a) (boolean b) = truth_of (holds c (bool_cmp a b))
compares c (number x) (number y) = truth_of (holds c (number_cmp x y))
compares c (text s) (text t) = truth_of (holds c (slice_cmp nat_cmp s t))
compares c v w = Unknown

-- The left text starts with the right one; unknown of other values.
abbrev pub starts_with : Comparand → Comparand → Truth
starts_with (text s) (text t) = truth_of (begins_with nat_eq s t)
starts_with v w = Unknown
