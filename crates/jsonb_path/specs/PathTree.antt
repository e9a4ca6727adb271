-- The tree that the parts of a path make.
use Rattle.std.specs.Prelude.{ℕ, ◌-◌, ◌∷◌, ◌++◌, length, List, [], Option, None, Some, get_or}
use Rattle.std.specs.Prelude.{string_bytes}
use Rattle.jsonb_value.specs.Tree.{Tree}
use Rattle.jsonb_value.specs.Tree as values
use Rattle.jsonb_path.specs.declared.path.Accessor.{Accessor}
use Rattle.jsonb_path.specs.declared.path.Accessor.TheVariants as accessors
use Rattle.jsonb_path.specs.declared.path.Literal.{Literal}
use Rattle.jsonb_path.specs.declared.path.Literal.TheVariants as literals
use Rattle.jsonb_path.specs.declared.path.Part.{Part}
use Rattle.jsonb_path.specs.declared.path.Part.TheVariants as parts
use Rattle.jsonb_path.specs.declared.path.Source.{Source}
use Rattle.jsonb_path.specs.declared.path.Source.TheVariants as sources
use Rattle.jsonb_path.specs.declared.path.Subscript.{Subscript}
use Rattle.jsonb_path.specs.declared.path.Test.{Test}
use Rattle.jsonb_path.specs.declared.path.Test.TheVariants as tests
use Rattle.jsonb_path.specs.Meaning.{Outcome, Query, path_gives}
use Rattle.jsonb_path.specs.PathParts.{PathParts}
use Rattle.jsonb_path.specs.Syntax.{Expression, Primary, Predicate, Subscripts}
use Rattle.jsonb_path.specs.Syntax as syntax

-- What a part stands for.
pub data PathNode : Type 0 where
  expression : Expression → PathNode
  test : Predicate → PathNode

-- The node of this index; past the last one, which no path names, it is `$`.
abbrev pub node_at : List PathNode → ℕ → PathNode
node_at nodes i = get_or nodes i (expression (syntax.chain syntax.root syntax.no_accessors))

abbrev pub as_expression : PathNode → Expression
as_expression (expression e) = e
as_expression (test p) = syntax.tested p

abbrev pub as_test : PathNode → Predicate
as_test (expression e) = syntax.exists e
as_test (test p) = p

-- The expression of this index: of a test, its truth.
abbrev pub expression_at : List PathNode → ℕ → Expression
expression_at nodes i = as_expression (node_at nodes i)

-- The test of this index: of an expression, which no path has there, whether it gives a value.
abbrev pub test_at : List PathNode → ℕ → Predicate
test_at nodes i = as_test (node_at nodes i)

abbrev pub literal_tree : Literal → Tree
literal_tree literals.Null = values.null
literal_tree (literals.Bool b) = values.boolean b
literal_tree (literals.Number x) = values.number x
literal_tree (literals.Text s) = values.text (string_bytes s)

abbrev pub primary_of : List PathNode → Source → Primary
primary_of nodes sources.Root = syntax.root
primary_of nodes sources.Current = syntax.current
primary_of nodes sources.Last = syntax.last
primary_of nodes (sources.Literal l) = syntax.literal (literal_tree l)
primary_of nodes (sources.Variable s) = syntax.variable (string_bytes s)
primary_of nodes (sources.Part i) = syntax.inner (expression_at nodes i)

abbrev pub subscript_onto : List PathNode → ℕ → Option ℕ → Subscripts → Subscripts
subscript_onto nodes i None rest = syntax.index (expression_at nodes i) rest
subscript_onto nodes i (Some j) rest =
    syntax.range (expression_at nodes i) (expression_at nodes j) rest

abbrev pub subscripts_of : List PathNode → List Subscript → Subscripts
subscripts_of nodes [] = syntax.no_subscripts
subscripts_of nodes (s ∷ ss) = subscript_onto nodes s.first s.last (subscripts_of nodes ss)

abbrev pub accessor_of : List PathNode → Accessor → syntax.Accessor
accessor_of nodes (accessors.Member s) = syntax.member (string_bytes s)
accessor_of nodes accessors.AllMembers = syntax.all_members
accessor_of nodes accessors.AllItems = syntax.all_items
accessor_of nodes (accessors.Items ss) = syntax.items_at (subscripts_of nodes ss.items)
accessor_of nodes (accessors.Descendants a b) = syntax.descendants a b
accessor_of nodes (accessors.Filter i) = syntax.filter (test_at nodes i)
accessor_of nodes (accessors.Method m) = syntax.method m

abbrev pub accessors_of : List PathNode → List Accessor → syntax.Accessors
accessors_of nodes [] = syntax.no_accessors
accessors_of nodes (a ∷ rest) = syntax.accessor (accessor_of nodes a) (accessors_of nodes rest)

abbrev pub predicate_of : List PathNode → Test → Predicate
predicate_of nodes (tests.And i j) = syntax.conjunction (test_at nodes i) (test_at nodes j)
predicate_of nodes (tests.Or i j) = syntax.disjunction (test_at nodes i) (test_at nodes j)
predicate_of nodes (tests.Not i) = syntax.denial (test_at nodes i)
predicate_of nodes (tests.IsUnknown i) = syntax.is_unknown (test_at nodes i)
predicate_of nodes (tests.Compare c i j) =
    syntax.comparison c (expression_at nodes i) (expression_at nodes j)
predicate_of nodes (tests.StartsWith i s) =
    syntax.starting (expression_at nodes i) (syntax.chain (primary_of nodes s) syntax.no_accessors)
predicate_of nodes (tests.Exists i) = syntax.exists (expression_at nodes i)

-- The node of a part, made of the nodes of the parts that it names.
abbrev pub node_of : List PathNode → Part → PathNode
node_of nodes (parts.Chain s steps) =
    expression (syntax.chain (primary_of nodes s) (accessors_of nodes steps.items))
node_of nodes (parts.Sign sign i) = expression (syntax.signed sign (expression_at nodes i))
node_of nodes (parts.Arithmetic op i j) =
    expression (syntax.arithmetic op (expression_at nodes i) (expression_at nodes j))
node_of nodes (parts.Test t) = test (predicate_of nodes t)

-- The nodes so far, and after them those of more parts.
abbrev pub nodes_onto : List PathNode → List Part → List PathNode
nodes_onto nodes [] = nodes
nodes_onto nodes (p ∷ ps) = nodes_onto (nodes ++ (node_of nodes p ∷ [])) ps

-- The nodes of parts, each made of those before it.
abbrev pub nodes_of : List Part → List PathNode
nodes_of ps = nodes_onto [] ps

-- The tree of a path's parts is that of the last one.
abbrev pub tree_of_parts : List Part → Expression
tree_of_parts ps = expression_at (nodes_of ps) (length ps - 1)

-- A path, as what it asks.
abbrev pub query_of : PathParts → Query
query_of path = record { mode = path.mode; tree = tree_of_parts path.parts }

-- What a path gives of a document with these variables.
abbrev pub path_means : PathParts → List (List ℕ × Tree) → Tree → Outcome
path_means path variables t = path_gives (query_of path) variables t
