-- The text of a path, as PostgreSQL prints it: keys quoted, parentheses where operators want them.
use Rattle.std.specs.Prelude.{ℕ, zero, ◌++◌, ◌&&◌, Bool, true, false, List, [], codes, decimal}
use Rattle.std.specs.Prelude.{nat_eq, nat_le, if◌then◌else◌}
use Rattle.jsonb_value.specs.Text.{compact, string_text}
use Rattle.jsonb_value.specs.Tree.{Tree, number}
use Rattle.jsonb_path.specs.declared.compare.Comparison.{Comparison}
use Rattle.jsonb_path.specs.declared.compare.Comparison.TheVariants as comparisons
use Rattle.jsonb_path.specs.declared.path.Level.{Level}
use Rattle.jsonb_path.specs.declared.path.Level.TheVariants.{Number, Last}
use Rattle.jsonb_path.specs.declared.path.Method.{Method}
use Rattle.jsonb_path.specs.declared.path.Method.TheVariants as methods
use Rattle.jsonb_path.specs.declared.path.Mode.{Mode}
use Rattle.jsonb_path.specs.declared.path.Mode.TheVariants.{Lax, Strict}
use Rattle.jsonb_path.specs.declared.path.Operator.{Operator}
use Rattle.jsonb_path.specs.declared.path.Operator.TheVariants as operators
use Rattle.jsonb_path.specs.declared.path.Sign.{Sign}
use Rattle.jsonb_path.specs.declared.path.Sign.TheVariants.{Plus, Minus}
use Rattle.jsonb_path.specs.Meaning.{Query}
use Rattle.jsonb_path.specs.PathParts.{PathParts}
use Rattle.jsonb_path.specs.PathTree.{query_of}
use Rattle.jsonb_path.specs.Syntax.{Expression, Primary, Accessor, Accessors, Subscripts, Predicate}
use Rattle.jsonb_path.specs.Syntax as syntax

-- ---- words

abbrev pub sign_character : Sign → List ℕ
sign_character Plus = codes "+"
sign_character Minus = codes "-"

abbrev pub operator_text : Operator → List ℕ
operator_text operators.Add = codes " + "
operator_text operators.Subtract = codes " - "
operator_text operators.Multiply = codes " * "
operator_text operators.Remainder = codes " % "

abbrev pub comparison_text : Comparison → List ℕ
comparison_text comparisons.Equal = codes " == "
comparison_text comparisons.NotEqual = codes " != "
comparison_text comparisons.Less = codes " < "
comparison_text comparisons.LessOrEqual = codes " <= "
comparison_text comparisons.Greater = codes " > "
comparison_text comparisons.GreaterOrEqual = codes " >= "

abbrev pub method_text : Method → List ℕ
method_text methods.Type = codes ".type()"
method_text methods.Size = codes ".size()"
method_text methods.Abs = codes ".abs()"
method_text methods.Floor = codes ".floor()"
method_text methods.Ceiling = codes ".ceiling()"
method_text methods.MemberNames = codes ".keyvalue().\"key\""
method_text methods.MemberValues = codes ".keyvalue().\"value\""

abbrev pub level_text : Level → List ℕ
level_text (Number n) = decimal n
level_text Last = codes "last"

abbrev up_to_text : Level → Level → List ℕ
up_to_text (Number a) (Number b) = if nat_eq a b then [] else codes " to " ++ decimal b
up_to_text Last Last = []
up_to_text a b = codes " to " ++ level_text b

-- Of two levels that are one, one is written; of all levels, none.
abbrev pub levels_text : Level → Level → List ℕ
levels_text (Number zero) Last = []
levels_text a b = codes "{" ++ (level_text a ++ (up_to_text a b ++ codes "}"))

-- ---- parentheses

-- How tightly operators bind: `||`, `&&`, comparisons, `+` and `-`, `*` and `%`, signs.
abbrev pub rank : Operator → ℕ
rank operators.Add = 4
rank operators.Subtract = 4
rank operators.Multiply = 5
rank operators.Remainder = 5

-- An operator stands in parentheses beside one that binds as tightly or tighter.
abbrev pub opening : ℕ → ℕ → List ℕ
opening own outer = if nat_le own outer then codes "(" else []

abbrev pub closing : ℕ → ℕ → List ℕ
closing own outer = if nat_le own outer then codes ")" else []

-- A number stands in parentheses before an accessor, whose point would be its own.
abbrev pub is_number : Tree → Bool
is_number (number x) = true
is_number t = false

abbrev pub has_accessors : Accessors → Bool
has_accessors syntax.no_accessors = false
has_accessors (syntax.accessor a steps) = true

abbrev pub literal_text : Bool → Tree → List ℕ
literal_text before_accessor t =
    if before_accessor && is_number t then codes "(" ++ (compact t ++ codes ")") else compact t

-- ---- the text

abbrev mutual
  -- The text of an expression beside an operator of this rank.
  pub expression_text : ℕ → Expression → List ℕ
  expression_text outer (syntax.chain p steps) =
      primary_text (has_accessors steps) p ++ accessors_text steps
  expression_text outer (syntax.signed sign e) =
      (opening 6 outer ++ sign_character sign) ++ (expression_text 6 e ++ closing 6 outer)
  expression_text outer (syntax.arithmetic op e f) =
      opening (rank op) outer
      ++ (expression_text (rank op) e
      ++ (operator_text op ++ (expression_text (rank op) f ++ closing (rank op) outer)))
  expression_text outer (syntax.tested p) = predicate_text outer p

  pub primary_text : Bool → Primary → List ℕ
  primary_text before_accessor syntax.root = codes "$"
  primary_text before_accessor syntax.current = codes "@"
  primary_text before_accessor syntax.last = codes "last"
  primary_text before_accessor (syntax.literal t) = literal_text before_accessor t
  primary_text before_accessor (syntax.variable name) = codes "$" ++ string_text name
  primary_text before_accessor (syntax.inner e) = codes "(" ++ (expression_text 0 e ++ codes ")")

  pub accessors_text : Accessors → List ℕ
  accessors_text syntax.no_accessors = []
  accessors_text (syntax.accessor a steps) = accessor_text a ++ accessors_text steps

  pub accessor_text : Accessor → List ℕ
  accessor_text (syntax.member name) = codes "." ++ string_text name
  accessor_text syntax.all_members = codes ".*"
  accessor_text syntax.all_items = codes "[*]"
  accessor_text (syntax.items_at subscripts) =
      codes "[" ++ (subscripts_text [] subscripts ++ codes "]")
  accessor_text (syntax.descendants a b) = codes ".**" ++ levels_text a b
  accessor_text (syntax.filter p) = codes "?(" ++ (predicate_text 0 p ++ codes ")")
  accessor_text (syntax.method m) = method_text m

  -- The text of subscripts, of which the first follows this text, and each other one a comma.
  pub subscripts_text : List ℕ → Subscripts → List ℕ
  subscripts_text before syntax.no_subscripts = []
  subscripts_text before (syntax.index e rest) =
      before ++ (expression_text 0 e ++ subscripts_text (codes ",") rest)
  subscripts_text before (syntax.range e f rest) =
      before
      ++ (expression_text 0 e
      ++ (codes " to " ++ (expression_text 0 f ++ subscripts_text (codes ",") rest)))

  -- The text of a test beside an operator of this rank.
  pub predicate_text : ℕ → Predicate → List ℕ
  predicate_text outer (syntax.disjunction p q) =
      opening 1 outer
      ++ (predicate_text 1 p ++ (codes " || " ++ (predicate_text 1 q ++ closing 1 outer)))
  predicate_text outer (syntax.conjunction p q) =
      opening 2 outer
      ++ (predicate_text 2 p ++ (codes " && " ++ (predicate_text 2 q ++ closing 2 outer)))
  predicate_text outer (syntax.comparison c e f) =
      opening 3 outer
      ++ (expression_text 3 e
      ++ (comparison_text c ++ (expression_text 3 f ++ closing 3 outer)))
  predicate_text outer (syntax.starting e f) =
      opening 3 outer
      ++ (expression_text 3 e
      ++ (codes " starts with " ++ (expression_text 3 f ++ closing 3 outer)))
  predicate_text outer (syntax.denial p) = codes "!(" ++ (predicate_text 0 p ++ codes ")")
  predicate_text outer (syntax.is_unknown p) =
      codes "(" ++ (predicate_text 0 p ++ codes ") is unknown")
  predicate_text outer (syntax.exists e) = codes "exists (" ++ (expression_text 0 e ++ codes ")")

abbrev pub mode_text : Mode → List ℕ
mode_text Lax = []
mode_text Strict = codes "strict "

-- The text of a path, around which parentheses stand if it is an operator's.
abbrev pub query_text : Query → List ℕ
query_text query = mode_text query.mode ++ expression_text 6 query.tree

abbrev pub path_text : PathParts → List ℕ
path_text path = query_text (query_of path)
