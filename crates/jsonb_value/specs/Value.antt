-- The tree that a `Value` means.
use Rattle.std.specs.Prelude.{ℕ, List, [], ◌∷◌, map, String, string_bytes}
use Rattle.std.specs.declared.alloc.Global.{Global}
use Rattle.std.specs.declared.borrow.CowStr.{CowStr}
use Rattle.std.specs.declared.borrow.CowStr.TheVariants.{Borrowed, Owned}
use Rattle.jsonb_value.specs.Tree.{Tree, null, boolean, number, text, extension, array, object}
use Rattle.jsonb_value.specs.Tree.{binary, date, timestamp, timestamp_tz, interval, opaque, Trees}
use Rattle.jsonb_value.specs.Tree.{no_trees, tree, Pairs, no_pairs, pair}
use Rattle.jsonb_value.specs.ExtCode.{opaque_tag, opaque_bytes}
use Rattle.jsonb_value.specs.declared.value.Value.{Value, fold-Value}
use Rattle.jsonb_value.specs.declared.value.Value.TheOpen.{Value-F}

-- The bytes of a string, owned or borrowed.
abbrev pub cow_bytes : CowStr Global → List ℕ
cow_bytes (Borrowed s) = s.now
cow_bytes (Owned s) = string_bytes s

-- A list of trees as the items of an array.
abbrev pub trees_of : List Tree → Trees
trees_of [] = no_trees
trees_of (t ∷ ts) = tree t (trees_of ts)

-- A list of keys and trees as the pairs of an object.
abbrev pub string_pairs : List (String Global × Tree) → Pairs
string_pairs [] = no_pairs
string_pairs (p ∷ ps) = pair (string_bytes p.0) p.1 (string_pairs ps)

-- The tree of one level, whose inner values are trees already.
abbrev pub tree_step : Value-F Tree → Tree
tree_step Value-F.Null = null
tree_step (Value-F.Bool b) = boolean b
tree_step (Value-F.String s) = text (cow_bytes s)
tree_step (Value-F.Number x) = number x
tree_step (Value-F.Binary bytes) = extension (binary bytes.now)
tree_step (Value-F.Date d) = extension (date d)
tree_step (Value-F.Timestamp t) = extension (timestamp t)
tree_step (Value-F.TimestampTz t) = extension (timestamp_tz t)
tree_step (Value-F.Interval i) = extension (interval i)
tree_step (Value-F.Opaque o) = extension (opaque (opaque_tag o) (opaque_bytes o))
tree_step (Value-F.Array v) = array (trees_of v.items)
tree_step (Value-F.Object m) = object (string_pairs m.entries)

-- The tree of a `Value`.
abbrev pub tree_of : Value → Tree
tree_of = fold-Value Tree tree_step

-- The trees of a list of values.
abbrev pub items_view : List Value → Trees
items_view vs = trees_of (map tree_of vs)

-- The pairs of an object as pairs of a tree.
abbrev pub pairs_view : List (String Global × Value) → Pairs
pairs_view ms = string_pairs (map (λ m. (m.0, tree_of m.1)) ms)
