-- Which parts make a path: each names parts before it, tests and expressions where they are wanted.
use Rattle.std.specs.Prelude.{ℕ, ◌∷◌, ◌++◌, ◌&&◌, Bool, true, false, nat_lt, length, List, []}
use Rattle.std.specs.Prelude.{Option, None, Some, slice_get}
use Rattle.std.specs.List.{list_all}
use Rattle.jsonb_path.specs.declared.path.Accessor.{Accessor}
use Rattle.jsonb_path.specs.declared.path.Accessor.TheVariants as accessors
use Rattle.jsonb_path.specs.declared.path.Literal.TheVariants as literals
use Rattle.jsonb_path.specs.declared.path.Mode.{Mode}
use Rattle.jsonb_path.specs.declared.path.Part.{Part}
use Rattle.jsonb_path.specs.declared.path.Part.TheVariants as parts
use Rattle.jsonb_path.specs.declared.path.Source.{Source}
use Rattle.jsonb_path.specs.declared.path.Source.TheVariants as sources
use Rattle.jsonb_path.specs.declared.path.Subscript.{Subscript}
use Rattle.jsonb_path.specs.declared.path.Test.{Test}
use Rattle.jsonb_path.specs.declared.path.Test.TheVariants as tests

-- A path as its mode and its parts.
pub record PathParts : Type 0 where
  pub mode : Mode
  pub parts : List Part

abbrev is_some_expression : Option Part → Bool
is_some_expression None = false
is_some_expression (Some (parts.Chain s steps)) = true
is_some_expression (Some (parts.Sign sign i)) = true
is_some_expression (Some (parts.Arithmetic op i j)) = true
is_some_expression (Some (parts.Test t)) = false

abbrev pub is_some_test : Option Part → Bool
is_some_test None = false
is_some_test (Some (parts.Chain s steps)) = false
is_some_test (Some (parts.Sign sign i)) = false
is_some_test (Some (parts.Arithmetic op i j)) = false
is_some_test (Some (parts.Test t)) = true

-- There is an expression of this index, or a test.
abbrev pub is_expression : List Part → ℕ → Bool
is_expression before i = is_some_expression (slice_get before i)

abbrev pub is_test : List Part → ℕ → Bool
is_test before i = is_some_test (slice_get before i)

-- The source is a part before it, or none.
abbrev pub is_source : List Part → Source → Bool
is_source before (sources.Part i) = nat_lt i (length before)
is_source before s = true

-- A text or a variable, which stand after `starts with`.
abbrev pub is_prefix : Source → Bool
is_prefix (sources.Literal (literals.Text s)) = true
is_prefix (sources.Variable s) = true
is_prefix s = false

abbrev pub is_expression_if : List Part → Option ℕ → Bool
is_expression_if before None = true
is_expression_if before (Some i) = is_expression before i

abbrev pub is_subscript : List Part → Subscript → Bool
is_subscript before s = is_expression before s.first && is_expression_if before s.last

abbrev pub is_accessor : List Part → Accessor → Bool
is_accessor before (accessors.Items ss) = list_all (is_subscript before) ss.items
is_accessor before (accessors.Filter i) = is_test before i
is_accessor before a = true

abbrev pub is_test_part : List Part → Test → Bool
is_test_part before (tests.And i j) = is_test before i && is_test before j
is_test_part before (tests.Or i j) = is_test before i && is_test before j
is_test_part before (tests.Not i) = is_test before i
is_test_part before (tests.IsUnknown i) = is_test before i
is_test_part before (tests.Compare c i j) = is_expression before i && is_expression before j
is_test_part before (tests.StartsWith i s) = is_expression before i && is_prefix s
is_test_part before (tests.Exists i) = is_expression before i

-- All parts that this one names are before it.
abbrev pub is_part : List Part → Part → Bool
is_part before (parts.Chain s steps) =
    is_source before s && list_all (is_accessor before) steps.items
is_part before (parts.Sign sign i) = is_expression before i
is_part before (parts.Arithmetic op i j) = is_expression before i && is_expression before j
is_part before (parts.Test t) = is_test_part before t

-- So it is with each part, after those before it.
abbrev pub are_parts_after : List Part → List Part → Bool
are_parts_after before [] = true
are_parts_after before (p ∷ ps) =
    is_part before p && are_parts_after (before ++ (p ∷ [])) ps

abbrev pub is_some_part : List Part → Bool
is_some_part [] = false
is_some_part (p ∷ ps) = true

-- There are parts, and each names parts before it.
abbrev pub are_parts : List Part → Bool
are_parts ps = are_parts_after [] ps && is_some_part ps
