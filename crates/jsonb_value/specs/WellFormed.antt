-- The trees that a `Value` can mean: numbers in the range of their types, texts in UTF-8, ascending
-- keys.
use Rattle.std.specs.Prelude.{◌<◌, ◌^◌, ⊤, FitsSigned}
use Rattle.std.specs.Int.{w32, w64, w128}
use Rattle.std.specs.Str.{IsUtf8}
use Rattle.jsonb_value.specs.declared.number.Number.{Number}
use Rattle.jsonb_value.specs.declared.number.Number.TheVariants.{Int64, UInt64, Decimal64}
use Rattle.jsonb_value.specs.declared.number.Number.TheVariants.{Decimal128}
use Rattle.jsonb_value.specs.Opaque.{IsOpaqueTag}
use Rattle.jsonb_value.specs.Tree.{Extension, binary, date, timestamp, timestamp_tz, interval}
use Rattle.jsonb_value.specs.Tree.{opaque, Tree, null, boolean, number, text, extension, array}
use Rattle.jsonb_value.specs.Tree.{object, Trees, no_trees, tree, Pairs, no_pairs, pair, Ascend}

-- The number is in the range of its type.
abbrev pub IsNumber : Number → Type 0
IsNumber (Int64 v) = FitsSigned w64 v
IsNumber (UInt64 n) = n < 2 ^ 64
IsNumber (Decimal64 d) = FitsSigned w64 d.value × (d.scale < 2 ^ 8)
IsNumber (Decimal128 d) = FitsSigned w128 d.value × (d.scale < 2 ^ 8)

-- The fields are in the range of their types, and an opaque tag is one of the eleven.
abbrev pub IsExtension : Extension → Type 0
IsExtension (binary bytes) = ⊤
IsExtension (date d) = FitsSigned w32 d.value
IsExtension (timestamp t) = FitsSigned w64 t.value
IsExtension (timestamp_tz t) = FitsSigned w64 t.value × FitsSigned w32 t.offset
IsExtension (interval i) =
    FitsSigned w32 i.months × (FitsSigned w32 i.days × FitsSigned w64 i.micros)
IsExtension (opaque tag bytes) = IsOpaqueTag tag × (tag < 2 ^ 8)

abbrev mutual
  -- All numbers and extension values in the tree are in range, its texts and keys are UTF-8, and
  -- its keys ascend.
  pub IsTree : Tree → Type 0
  IsTree null = ⊤
  IsTree (boolean b) = ⊤
  IsTree (number x) = IsNumber x
  IsTree (text s) = IsUtf8 s
  IsTree (extension e) = IsExtension e
  IsTree (array ts) = AreTrees ts
  IsTree (object ps) = Ascend ps × ArePairs ps

  -- Every tree of the list satisfies `IsTree`.
  pub AreTrees : Trees → Type 0
  AreTrees no_trees = ⊤
  AreTrees (tree t ts) = IsTree t × AreTrees ts

  -- Every key of the pairs is UTF-8, and every value satisfies `IsTree`.
  pub ArePairs : Pairs → Type 0
  ArePairs no_pairs = ⊤
  ArePairs (pair k t ps) = IsUtf8 k × (IsTree t × ArePairs ps)
