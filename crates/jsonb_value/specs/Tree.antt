-- The meaning of a document.
use Rattle.std.specs.Prelude.{◌≡◌, ℕ, suc, List, Bool, Option, None, Some, IfSome, ⊤}
use Rattle.std.specs.Ordering.{nat_cmp}
use Rattle.std.specs.Cmp.Lexicographic.{slice_cmp}
use Rattle.std.specs.declared.cmp.Ordering.TheVariants.{Less}
use Rattle.jsonb_value.specs.declared.number.Number.{Number}
use Rattle.jsonb_value.specs.declared.extension.Date.{Date}
use Rattle.jsonb_value.specs.declared.extension.Timestamp.{Timestamp}
use Rattle.jsonb_value.specs.declared.extension.TimestampTz.{TimestampTz}
use Rattle.jsonb_value.specs.declared.extension.Interval.{Interval}

-- An extension value.
pub data Extension : Type 0 where
  binary : List ℕ → Extension
  date : Date → Extension
  timestamp : Timestamp → Extension
  timestamp_tz : TimestampTz → Extension
  interval : Interval → Extension
  opaque : ℕ → List ℕ → Extension

-- The meaning of a document: a number keeps its kind, and a text is its bytes.
mutual
  pub data Tree : Type 0 where
    null : Tree
    boolean : Bool → Tree
    number : Number → Tree
    text : List ℕ → Tree
    extension : Extension → Tree
    array : Trees → Tree
    object : Pairs → Tree

  pub data Trees : Type 0 where
    no_trees : Trees
    tree : Tree → Trees → Trees

  pub data Pairs : Type 0 where
    no_pairs : Pairs
    pair : List ℕ → Tree → Pairs → Pairs

-- The number of items in a list.
abbrev pub count : Trees → ℕ
count no_trees = 0
count (tree t ts) = suc (count ts)

-- The number of pairs in a list.
abbrev pub pair_count : Pairs → ℕ
pair_count no_pairs = 0
pair_count (pair k t ps) = suc (pair_count ps)

-- The keys ascend strictly by their bytes, and the first is greater than `before`, if there is one.
abbrev pub Ascends : Option (List ℕ) → Pairs → Type 0
Ascends before no_pairs = ⊤
Ascends before (pair k t ps) =
    IfSome before (λ b. slice_cmp nat_cmp b k ≡ Less) × Ascends (Some k) ps

-- The keys ascend strictly by their bytes.
abbrev pub Ascend : Pairs → Type 0
Ascend ps = Ascends None ps
