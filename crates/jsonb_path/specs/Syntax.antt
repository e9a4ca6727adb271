-- A path as a tree: what it asks, without its text.
use Rattle.std.specs.Prelude.{ℕ, List}
use Rattle.jsonb_value.specs.Tree.{Tree}
use Rattle.jsonb_path.specs.declared.compare.Comparison.{Comparison}
use Rattle.jsonb_path.specs.declared.path.Level.{Level}
use Rattle.jsonb_path.specs.declared.path.Method.{Method}
use Rattle.jsonb_path.specs.declared.path.Operator.{Operator}
use Rattle.jsonb_path.specs.declared.path.Sign.{Sign}

mutual
  -- What gives values: a chain, a sign, an operator, or a test for its truth.
  pub data Expression : Type 0 where
    chain : Primary → Accessors → Expression
    signed : Sign → Expression → Expression
    arithmetic : Operator → Expression → Expression → Expression
    tested : Predicate → Expression

  -- What a chain begins with: `$`, `@`, `last`, a literal, a variable, or what parentheses hold.
  pub data Primary : Type 0 where
    root : Primary
    current : Primary
    last : Primary
    literal : Tree → Primary
    variable : List ℕ → Primary
    inner : Expression → Primary

  -- One step from a value: `.k`, `.*`, `[*]`, `[..]`, `.**{..}`, `?(..)` or `.abs()`.
  pub data Accessor : Type 0 where
    member : List ℕ → Accessor
    all_members : Accessor
    all_items : Accessor
    items_at : Subscripts → Accessor
    descendants : Level → Level → Accessor
    filter : Predicate → Accessor
    method : Method → Accessor

  pub data Accessors : Type 0 where
    no_accessors : Accessors
    accessor : Accessor → Accessors → Accessors

  -- Each is one index, or a first and a last one.
  pub data Subscripts : Type 0 where
    no_subscripts : Subscripts
    index : Expression → Subscripts → Subscripts
    range : Expression → Expression → Subscripts → Subscripts

  -- What is true, false or unknown.
  pub data Predicate : Type 0 where
    conjunction : Predicate → Predicate → Predicate
    disjunction : Predicate → Predicate → Predicate
    denial : Predicate → Predicate
    is_unknown : Predicate → Predicate
    comparison : Comparison → Expression → Expression → Predicate
    starting : Expression → Expression → Predicate
    exists : Expression → Predicate
